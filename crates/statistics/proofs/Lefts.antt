-- What is left over, by numbers.
use Rattle.std.proofs.Common.{◌≡◌, ℕ, ◌≤◌, Bool, [], ◌∷◌, length, sym, ap, ◌∙◌}
use Rattle.model.specs.declared.Node.{Node}
use Rattle.model.specs.Table.{Words, node}
use Rattle.model.specs.Slots.{Slot, node_view, view, used}
use Rattle.model.specs.Search.{within}
use Rattle.model.specs.Reached.{kept}
use Rattle.model.specs.Shifts.{hidden_place}
use Rattle.list_laws.proofs.Filters.{filter-short}
use Rattle.slots.specs.Scan.{in_use_of}
use Rattle.node.specs.Word.{word_of}
use Rattle.node.proofs.WordLaws.{word-sibling}
use Rattle.sound.specs.declared.Leftover.{Leftover}
use Rattle.sound.specs.declared.Leftover.TheVariants.{HiddenIn, MissingIn, BothIn}
use Rattle.sound.specs.Checked.{meant}
use Rattle.model.specs.Statistics.{hidden_slot, trailing_slots, left_words}

module _ (t : Words) where
  pub slot-is : (n : ℕ) (x : Node) (r : ℕ) → x ≡ node t n → r ≡ hidden_place x.left (in_use_of x.slots) → r ≡ hidden_slot t n
  unfolding hidden_slot used in_use_of
  slot-is n x r e q = q ∙ ap (λ (y : Node). hidden_place y.left (in_use_of y.slots)) e

  pub kept-shown : (n : ℕ) → length (kept (view t) n) ≤ length (node_view t n).shown
  unfolding kept
  kept-shown n = filter-short (λ (s : Slot). within (view t) n s.key) (node_view t n).shown

  -- the words of each leftover
  module _ (c : ℕ) (l : Leftover) where
    pub words-of : (m : Leftover) → l ≡ m → left_words t c (meant m) ≡ left_words t c (meant l)
    words-of m e = ap (λ (x : Leftover). left_words t c (meant x)) (sym e)

    pub words-hidden : (x s : ℕ) → l ≡ HiddenIn x → s ≡ hidden_slot t x → 1 ∷ c ∷ x ∷ s ∷ 0 ∷ 0 ∷ 0 ∷ 0 ∷ [] ≡ left_words t c (meant l)
    words-hidden x s e q = ap (λ (y : ℕ). 1 ∷ c ∷ x ∷ y ∷ 0 ∷ 0 ∷ 0 ∷ 0 ∷ []) q ∙ words-of (HiddenIn x) e

    pub words-missing : (p a : ℕ) (b : Bool) (s k : ℕ) → l ≡ MissingIn p a b → s ≡ word_of t a 1 → k ≡ trailing_slots t a
        → 2 ∷ c ∷ 0 ∷ 0 ∷ s ∷ a ∷ p ∷ k ∷ [] ≡ left_words t c (meant l)
    words-missing p a b s k e q r =
        ap (λ (y : ℕ). 2 ∷ c ∷ 0 ∷ 0 ∷ y ∷ a ∷ p ∷ k ∷ []) (q ∙ word-sibling t a)
        ∙ ap (λ (y : ℕ). 2 ∷ c ∷ 0 ∷ 0 ∷ (node_view t a).sibling ∷ a ∷ p ∷ y ∷ []) r ∙ words-of (MissingIn p a b) e

    pub words-both : (p a h s : ℕ) → l ≡ BothIn p a → h ≡ hidden_slot t p → s ≡ word_of t a 1 → 3 ∷ c ∷ p ∷ h ∷ s ∷ a ∷ p ∷ 0 ∷ []
        ≡ left_words t c (meant l)
    words-both p a h s e q r =
        ap (λ (y : ℕ). 3 ∷ c ∷ p ∷ y ∷ s ∷ a ∷ p ∷ 0 ∷ []) q
        ∙ ap (λ (y : ℕ). 3 ∷ c ∷ p ∷ hidden_slot t p ∷ y ∷ a ∷ p ∷ 0 ∷ []) (r ∙ word-sibling t a) ∙ words-of (BothIn p a) e
