-- `sentinels::renew_stored` meets its contract. The loop keeps that the words of the nodes are set that the first i orders store to, the
-- last
-- one's among them.
use Rattle.std.proofs.Common.{◌≡◌, ◌*◌, true, ◌≢◌, length}
use Rattle.model.specs.Table.{nodes}
use Rattle.model.specs.Sentinels.{set_anew}
use Rattle.sentinels.specs.Anew.{named}
use Rattle.sentinels.proofs.renew_stored.Given as goal

abbrev pub invariant-loop-i : goal.invariant-loop-i
invariant-loop-i l = record {
  long : length l.words ≡ 3 * nodes l.table;
  set : l.words ≡ set_anew (named (length l.table) l.list l.i) l.table l.initial.words;
  had : l.last ≢ 0 → named (length l.table) l.list l.i l.last ≡ true;
}
