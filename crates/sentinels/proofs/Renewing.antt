-- The words of one node, by the reads of the code.
use Rattle.std.proofs.Common.{◌≡◌, ℕ, Bool, true, false, ◌&&◌, eqb, ◌≢◌, [], ◌∷◌, sym, ap, ◌∙◌, eq-eqb, ne_eqb}
use mathlib.Core.Bool.{and-false, and-true}
use Rattle.model.specs.Table.{Words, nodes, node, has_node}
use Rattle.model.specs.Reached.{reached_all}
use Rattle.model.specs.SoundTest.{elem, sound}
use Rattle.model.specs.Sentinels.{first_key, leaves_all, sentinels_of}
use Rattle.list_laws.proofs.Tools.{and-iff}
use Rattle.list_laws.proofs.Members.{each-mem, elem-iff}
use Rattle.list_laws.proofs.Distinct.{UpTo}
use Rattle.table_laws.proofs.Nodes.{has-node-range}
use Rattle.tree_laws.proofs.Rows.{range-iff}
use Rattle.two_laws.proofs.CollectionTwo.{reached-up}
use Rattle.two_laws.proofs.SearchTwo.{sound-head}
use Rattle.sentinel_laws.proofs.Leaves.{leaves-level}
use Rattle.node.specs.Word.{word_of, words_at}
use Rattle.node.proofs.WordLaws.{word-level}
use Rattle.sentinels.proofs.Reading.{line-is}
use Rattle.sentinels.specs.Lines.{line_of}

-- ---- whether a node is a leaf

module _ (t : Words) (n l : ℕ) (s : sound t ≡ true) (e : l ≡ word_of t n 2) where
  level-is : eqb l 0 ≡ eqb (node t n).level 0
  level-is = ap (λ (x : ℕ). eqb x 0) (e ∙ word-level t n)

  pub not-leaf : l ≢ 0 → false ≡ elem n (leaves_all t)
  not-leaf z = sym (leaves-level t n s ∙ ap (λ (b : Bool). elem n (reached_all t) && b) (sym level-is ∙ ne_eqb l 0 z)
      ∙ and-false (elem n (reached_all t)))

  pub leaf-taken : (r : Bool) → l ≡ 0 → r ≡ elem n (reached_all t) → r ≡ elem n (leaves_all t)
  leaf-taken r z q = q
      ∙ sym (leaves-level t n s ∙ ap (λ (b : Bool). elem n (reached_all t) && b) (sym level-is ∙ eq-eqb l 0 z)
      ∙ and-true (elem n (reached_all t)))

-- ---- its words

pub no-words : (t : Words) (n : ℕ) (r : Bool) → r ≡ elem n (leaves_all t) → r ≡ false → 0 ∷ 0 ∷ 0 ∷ [] ≡ sentinels_of t n
unfolding sentinels_of
no-words t n r e z = rw (sym e ∙ z)

module _ (t : Words) (n : ℕ) (s : sound t ≡ true) (r : Bool) (q : r ≡ elem n (leaves_all t)) (z : r ≡ true) where
  pub leaf-there : has_node t n ≡ true
  leaf-there =
      let l = (and-iff _ _).0 (sym (leaves-level t n s) ∙ sym q ∙ z) in
      has-node-range t n (sound-head t s)
      ∙ (range-iff (nodes t) n).1 (each-mem (UpTo (nodes t)) (reached-up t s) ((elem-iff n (reached_all t)).0 l.0))

  pub leaf-words : (vs : Words) (a b c : ℕ) → vs ≡ words_at t n → a ≡ first_key (line_of vs 0) → b ≡ first_key (line_of vs 4) → c
      ≡ first_key (line_of vs 8) → a ∷ b ∷ c ∷ [] ≡ sentinels_of t n
  unfolding sentinels_of
  leaf-words vs a b c e x y u =
      rw (sym q ∙ z) (λ i. (x ∙ ap first_key (line-is t n leaf-there 0 vs e)) i ∷ (y ∙ ap first_key (line-is t n leaf-there 1 vs e)) i
      ∷ (u ∙ ap first_key (line-is t n leaf-there 2 vs e)) i ∷ [])
