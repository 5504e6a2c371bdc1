-- `short_scripts::words_of` meets its contract.
use Rattle.std.proofs.Common.{◌≡◌, ◌<◌, ◌≤◌, length}
use Rattle.short_laws.proofs.Rank.{grown}
use Rattle.short_scripts.proofs.Words.{filled}
use Rattle.short_scripts.proofs.words_of.Given as goal

abbrev pub invariant-loop-i : goal.invariant-loop-i
invariant-loop-i l =
    (l.i ≤ 4) × (length l.words ≡ 5) × (grown 0 l.i ≤ l.n) × (l.n < grown 1 l.i)
    × (filled l.i l.n l.words ≡ filled l.count l.number l.initial.words)
