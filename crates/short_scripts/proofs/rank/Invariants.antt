-- `short_scripts::rank` meets its contract.
use Rattle.std.proofs.Common.{◌≡◌, ◌<◌, ◌≤◌, true, length, drop}
use Rattle.model.specs.Scripts.{rank_on, rank, actions_in}
use Rattle.short_laws.proofs.Rank.{grown}
use Rattle.short_scripts.proofs.Words.{within}
use Rattle.short_scripts.proofs.rank.Given as goal

abbrev pub invariant-loop-action : goal.invariant-loop-action
invariant-loop-action l = record {
  few : length l.actions ≤ 4;
  small : l.n < grown 1 l.action-index;
  six : within 5 (drop l.action-index l.actions) ≡ true;
  same : rank_on l.n (drop l.action-index l.actions) ≡ rank (actions_in l.fn.words);
}
