-- What a quick listing answers and leaves: after a refusal of its tests, and with a way.
use Rattle.std.proofs.Common.{◌≡◌, ℕ, zero, suc, ◌-◌, get_or, sym, refl, ap, ◌∙◌}
use Rattle.std.specs.Prelude.{Err}
use Rattle.model.specs.declared.Page.{Page}
use Rattle.model.specs.declared.Refusal.{Refusal}
use Rattle.model.specs.Numbers.{refusal_number}
use Rattle.model.specs.Results.{Listed, refused_with, page_with}
use Rattle.model.specs.Table.{Words, at, root, nodes, root_word}
use Rattle.model.specs.Slots.{view}
use Rattle.model.specs.Writes.{standing}
use Rattle.model.specs.Summary.{marks_in, page_of, quick_list_number, quick_listed, quick_list_out}
use Rattle.model.proofs.Numbers.{passed-number, failed-some, refused-by}
use Rattle.way.specs.declared.Way.{Way}
use Rattle.way.specs.Ways.{Along}
use Rattle.way.proofs.Walking.{along-on}
use Rattle.listing.specs.Taking.{sheet, begun, all_taken, pairs_from}
use Rattle.listing.proofs.Pairs.{all-listed}
use Rattle.listing.proofs.Leaves.{any-pairs}

module _ (n : ℕ) (ws t : Words) (low high : ℕ) (out : Words) where
  -- the answer, and the lent slice then
  abbrev Answers : Listed → Words → Type 0
  Answers r u = (r ≡ quick_listed n ws t low high out) × (u ≡ quick_list_out n ws t low high out)

  pub refused : (r : Refusal) → refusal_number r ≡ quick_list_number n ws t low → Answers (Err r) out
  unfolding quick_listed quick_list_out
  refused r e = go (quick_list_number n ws t low) refl
    where
      go : (m : ℕ) → quick_list_number n ws t low ≡ m → Answers (Err r) out
      go zero q = absurd (failed-some _ (passed-number r) (e ∙ q))
      go (suc m) q = let same : ◌≡◌ {A = Listed} (refused_with (suc m)) (Err r) =
          ap refused_with (sym q ∙ sym e) ∙ refused-by r in rw q (sym same, refl)

  pub done : (w : Way) (x : ℕ) (p : Page) (u : Words) → 0 ≡ quick_list_number n ws t low → Along n (marks_in (nodes t) ws) t low w
      → x ≡ get_or w.nodes (w.height - 0) 0 → sheet u p ≡ all_taken (pairs_from (view t) low high x) (begun out)
      → Answers (page_with p.count p.more) u
  unfolding quick_listed quick_list_out page_of
  done w x p u z a e s =
      let leaf : x ≡ standing n t 0 low = along-on a 0 x e in
      let pairs = any-pairs t (root t) (at t (root_word n)) low high x in
      let both = all-listed (page_of n t low high) out u p (rw (pairs, leaf) at s) in
      let g : quick_list_number n ws t low ≡ 0 = sym z in
      rw g both
