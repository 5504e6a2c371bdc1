-- `gather::gather_shown` meets its contract.
use mathlib.Core.Path.{sym, ◌∙◌}
use Rattle.gather.proofs.Leaves.{met-none, met-taken, met-most, kept-same}
use Rattle.gather.proofs.gather_shown.Goals as goal

pub returns-then-not-is_met : goal.returns-then-not-is_met
returns-then-not-is_met c =
    record {
      result_after = met-none _ _ _ _ _ _ _ _ (sym c.is_met.ensures ∙ c.if-not-is_met.true);
      standing = (c.requires.0, kept-same _ _);
    }

pub gather_slot-requires : goal.gather_slot-requires
gather_slot-requires c =
    (c.requires.0, c.requires.1, met-most _ _ _ _ _ _ _ _ (sym c.is_met.ensures ∙ c.if-not-is_met.false) _ c.requires.2)

pub returns : goal.returns
returns c = record {
  result_after = met-taken _ _ _ _ _ _ _ _ (sym c.is_met.ensures ∙ c.if-not-is_met.false) _ c.gather_slot.ensures.result_after;
  standing = c.gather_slot.ensures.standing;
}
