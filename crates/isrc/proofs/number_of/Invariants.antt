-- The loop's invariant: reading on gives the whole's number, and i characters read as less than 36 ^ i.
use Rattle.std.proofs.Common.{◌≡◌, ◌^◌, ◌<◌, map, drop}
use Rattle.model.specs.Codes.{value, number, read_on}
use Rattle.isrc.proofs.number_of.Given as goal

abbrev pub invariant-loop-c : goal.invariant-loop-c
invariant-loop-c l =
    (l.n < 36 ^ l.c-index) × (read_on l.base l.n (map value (drop l.c-index l.text)) ≡ number l.base (map value l.text))
