-- `listing::list_leaf` meets its contract. The loop keeps what taking the slots from i on, from the present state, comes to.
use Rattle.std.proofs.Common.{◌≡◌}
use Rattle.slots.specs.Scan.{shown_from}
use Rattle.listing.specs.Taking.{sheet, all_taken, wanted}
use Rattle.listing.proofs.list_leaf.Given as goal

abbrev pub invariant-loop-i : goal.invariant-loop-i
invariant-loop-i l = all_taken (wanted l.w (shown_from l.before l.slots l.i)) (sheet l.out l.p)
    ≡ all_taken (wanted l.w (shown_from l.initial.before l.slots 0)) (sheet l.initial.out l.initial.p)
