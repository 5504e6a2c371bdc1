-- The check of disjointness: two orderly trees over the same nodes share none exactly if their last leaves differ.
use Rattle.std.proofs.Common.{◌≡◌, ℕ, true, false, ◌≢◌, ◌↔◌, List, [], ◌∷◌, ◌++◌, sym, refl, ◌∙◌}
use mathlib.Core.List.{Memᴰ}
use Rattle.model.specs.Slots.{View}
use Rattle.model.specs.Reached.{reached, leaves}
use Rattle.model.specs.SoundTest.{elem, distinct}
use Rattle.list_laws.proofs.Members.{elem-none, mem-each, each-mem}
use Rattle.list_laws.proofs.Distinct.{distinct-append}
use Rattle.tree_laws.proofs.Levels.{Orderly, Level, level-leaves, mem-leaves}
use Rattle.walk_laws.specs.Chain.{last_or, last_leaf}
use Rattle.change_laws.proofs.Updates.{with_root}
use Rattle.two_laws.proofs.Apart.{each-last, shared-last}
use Rattle.two_laws.proofs.LastLeaf.{last-leaf}

last-mem : (v : View) (d : ℕ) (ns : List ℕ) → Level v d ns → Memᴰ (last_or 0 ns) ns
unfolding last_or
last-mem v d [] l = absurd (l.some refl)
last-mem v d (n ∷ ns) l = each-last v (λ (m : ℕ). Memᴰ m (n ∷ ns)) n ns (mem-each (λ (m : ℕ). Memᴰ m (n ∷ ns)) (n ∷ ns) (λ m h. h))

-- it is reached
last-reached : (v : View) → Orderly v → Memᴰ (last_leaf v) (reached v)
last-reached v o = rw (last-leaf v o) ((mem-leaves v (last_or 0 (leaves v)) o).0 (last-mem v 0 (leaves v) (level-leaves v o))).0

pub apart-iff : (v : View) (r : ℕ) → Orderly v → Orderly (with_root v r)
    → (distinct (reached v ++ reached (with_root v r)) ≡ true) ↔ (last_leaf v ≢ last_leaf (with_root v r))
apart-iff v r o q =
    let w = with_root v r in (
      λ d e. (elem-none (last_leaf v) (reached w)).0
          (each-mem (λ (n : ℕ). elem n (reached w) ≡ false) ((distinct-append (reached v) (reached w)).0 d).2 (last-reached v o))
          (rw e (last-reached w q)),
      λ z. (distinct-append (reached v) (reached w)).1 (
        o.once,
        q.once,
        mem-each (λ (n : ℕ). elem n (reached w) ≡ false) (reached v)
            (λ n m. (elem-none n (reached w)).1 (λ h. z (last-leaf v o ∙ shared-last v r o q n m h ∙ sym (last-leaf w q)))),
      ),
    )
