-- `sentinels::renew_stored` meets its contract. The loop keeps that the words of the nodes are set that the first i orders store to, the
-- last
-- one's among them.
use Rattle.std.proofs.Common.{length, refl, ap, ◌∙◌, arith}
use Rattle.table_laws.proofs.Header.{header-iff}
use Rattle.sentinel_laws.proofs.TrueWords.{length-anew}
use Rattle.sentinels.proofs.Setting.{stored-none, stored-few, stored-last, stored-more}
use Rattle.sentinels.proofs.renew_stored.Goals as goal

pub loop-i-init : goal.loop-i-init
loop-i-init c = record {
  long = c.requires.words_len;
  set = stored-none c.args.table.now c.args.words.now _ c.requires.words_len;
  had = λ z. absurd (z refl);
}

pub stored_node-n-requires : goal.stored_node-n-requires
stored_node-n-requires c = let f = ((header-iff _).0 c.requires.table_value).size in omega (arith, f.long, f.few)

pub renew_once-last-requires-clause-n_in_bounds : goal.renew_once-last-requires-clause-n_in_bounds
renew_once-last-requires-clause-n_in_bounds c = let size = ((header-iff _).0 c.requires.table_value).size.long in
    omega (
      arith,
      c.loop-i.invariant.long,
      stored-few c.args.table.now c.args.words.now _ c.requires.words_len _ _ _ size c.stored_node-n.ensures c.loop-i.invariant.had,
    )

pub loop-i-preserved : goal.loop-i-preserved
loop-i-preserved c = let t = c.args.table.now in let words = c.args.words.now in let l = c.loop-i in
    let size = ((header-iff _).0 c.requires.table_value).size.long in
    let e = stored-more t words _ c.requires.words_len l.i _ _ size c.stored_node-n.ensures l.invariant.had _ _ l.invariant.set
    c.renew_once-last.ensures.words_after in record {
      long = ap length e ∙ length-anew _ t words c.requires.words_len;
      set = e;
      had = stored-last t words _ c.requires.words_len l.i _ _ size c.stored_node-n.ensures l.invariant.had _
          c.renew_once-last.ensures.value;
    }
