-- A number put in after another one in a list of nodes.
use Rattle.std.proofs.Common.{◌≡◌, ℕ, suc, Bool, true, false, eqb, ◌≢◌, ◌⊎◌, List, [], ◌∷◌, ◌++◌, length, sym, refl, ap, ◌∙◌, inl, inr}
use Rattle.std.proofs.Common.{append_assoc, eq-eqb, ne_eqb, eqb-true}
use mathlib.Core.List.Memᴰ
use mathlib.Core.List.{Memᴰ}
use borrow.Author.Tests.{eqb-false}
use Rattle.model.specs.Reached.{flat, head_or}
use Rattle.model.specs.SoundTest.{elem, distinct}
use Rattle.list_laws.proofs.Tools.{Each}
use Rattle.list_laws.proofs.Members.{elem-iff, elem-false, elem-cons}
use Rattle.list_laws.proofs.Distinct.{distinct-cons, distinct-middle, Once}
use Rattle.change_laws.proofs.Lists.{Off}

-- b put in after a
unfoldable pub splice : ℕ → ℕ → List ℕ → List ℕ
splice a b [] = []
splice a b (n ∷ ns) = elim (eqb n a) [ true ↦ n ∷ b ∷ splice a b ns | false ↦ n ∷ splice a b ns ]

module _ (a b : ℕ) where
  -- an empty list has no a to put b after
  pub splice-nil : splice a b [] ≡ []
  unfolding splice
  splice-nil = refl

  -- after a first a comes b
  pub splice-at : (ns : List ℕ) → splice a b (a ∷ ns) ≡ a ∷ b ∷ splice a b ns
  unfolding splice
  splice-at ns = rw (eq-eqb a a refl, splice)

  -- a first number other than a stays in front
  pub splice-off : (n : ℕ) (ns : List ℕ) → n ≢ a → splice a b (n ∷ ns) ≡ n ∷ splice a b ns
  unfolding splice
  splice-off n ns z = rw (ne_eqb n a z, splice)

  pub splice-append : (xs ys : List ℕ) → splice a b (xs ++ ys) ≡ splice a b xs ++ splice a b ys
  unfolding splice
  splice-append [] ys = refl
  splice-append (n ∷ xs) ys = go (eqb n a) refl (splice-append xs ys)
    where
      go : (c : Bool) → eqb n a ≡ c → splice a b (xs ++ ys) ≡ splice a b xs ++ splice a b ys → splice a b (n ∷ xs ++ ys)
          ≡ splice a b (n ∷ xs) ++ splice a b ys
      go true e ih = rw (e, splice) (ap (λ (l : List ℕ). n ∷ b ∷ l) ih)
      go false e ih = rw (e, splice) (ap (λ (l : List ℕ). n ∷ l) ih)

  -- a list without a stays
  pub splice-none : (ns : List ℕ) → Off a ns → splice a b ns ≡ ns
  splice-none [] h = splice-nil
  splice-none (n ∷ ns) h = splice-off n ns h.0 ∙ ap (λ (l : List ℕ). n ∷ l) (splice-none ns h.1)

  pub head-splice : (e : ℕ) (ns : List ℕ) → head_or e (splice a b ns) ≡ head_or e ns
  unfolding splice
  head-splice e [] = refl
  head-splice e (n ∷ ns) = go (eqb n a) refl
    where
      go : (c : Bool) → eqb n a ≡ c → head_or e (splice a b (n ∷ ns)) ≡ n
      go true q = rw (q, splice)
      go false q = rw (q, splice)

  -- what holds of each element, and of a and of b
  pub splice-each : (P Q : ℕ → Type 0) → ((n : ℕ) → n ≢ a → P n → Q n) → (P a → Q a × Q b) → (ns : List ℕ) → Each P ns
      → Each Q (splice a b ns)
  splice-each P Q off at [] h = rw splice-nil tt
  splice-each P Q off at (n ∷ ns) h = go (eqb n a) refl (splice-each P Q off at ns h.1)
    where
      go : (c : Bool) → eqb n a ≡ c → Each Q (splice a b ns) → Each Q (splice a b (n ∷ ns))
      go true e ih = let q = eqb-true n a e in let u = at (rw q at h.0) in rw (q, splice-at ns) (u.0, (u.1, ih))
      go false e ih = rw (splice-off n ns (eqb-false n a e)) (off n (eqb-false n a e) h.0, ih)

  -- where what a gave is what a and b give now, the whole is what it was
  pub splice-flat : {C : Type 0} (g h : ℕ → List C) → g a ++ g b ≡ h a → (ns : List ℕ) → Each (λ (n : ℕ). n ≢ a → g n ≡ h n) ns
      → flat g (splice a b ns) ≡ flat h ns
  unfolding flat
  splice-flat g h at [] off = rw splice-nil
  splice-flat {C} g h at (n ∷ ns) off = go (eqb n a) refl (splice-flat g h at ns off.1)
    where
      go : (c : Bool) → eqb n a ≡ c → flat g (splice a b ns) ≡ flat h ns → flat g (splice a b (n ∷ ns)) ≡ h n ++ flat h ns
      go true e ih = rw (eqb-true n a e, splice-at ns, ih)
          (sym (append_assoc (g a) (g b) (flat h ns)) ∙ ap (λ (l : List C). l ++ flat h ns) at)
      go false e ih = rw (splice-off n ns (eqb-false n a e), off.0 (eqb-false n a e), ih)

  pub splice-out : (g : ℕ → List ℕ) (ns : List ℕ) → flat (λ (n : ℕ). splice a b (g n)) ns ≡ splice a b (flat g ns)
  unfolding flat
  splice-out g [] = rw splice-nil
  splice-out g (n ∷ ns) = rw (splice-out g ns) (sym (splice-append (g n) (flat g ns)))

  -- elements
  elem-splice : (n : ℕ) (ns : List ℕ) → n ≢ b → elem n ns ≡ false → elem n (splice a b ns) ≡ false
  elem-splice n [] z h = rw splice-nil h
  elem-splice n (m ∷ ns) z h = let u = (elem-cons n m ns).0 h in go (eqb m a) refl u (elem-splice n ns z u.1)
    where
      go : (c : Bool) → eqb m a ≡ c → (n ≡ m → ⊥) × (elem n ns ≡ false) → elem n (splice a b ns) ≡ false
          → elem n (splice a b (m ∷ ns)) ≡ false
      go true c u ih = let q =
          eqb-true m a c in rw (q, splice-at ns) ((elem-cons n a _).1 (λ e. u.0 (e ∙ sym q), (elem-cons n b _).1 (z, ih)))
      go false c u ih = rw (splice-off m ns (eqb-false m a c)) ((elem-cons n m _).1 (u.0, ih))

  -- the numbers of a list are still there with b put in after a
  pub mem-splice : (x : ℕ) (ns : List ℕ) → Memᴰ x ns → Memᴰ x (splice a b ns)
  mem-splice x [] m = absurd (Memᴰ.not-nil m)
  mem-splice x (n ∷ ns) m = go (eqb n a) refl (Memᴰ.cases_cons m) (mem-splice x ns)
    where
      go : (c : Bool) → eqb n a ≡ c → (x ≡ n) ⊎ Memᴰ x ns → (Memᴰ x ns → Memᴰ x (splice a b ns)) → Memᴰ x (splice a b (n ∷ ns))
      go true c (inl e) ih = let q = eqb-true n a c in rw (q, splice-at ns) (Memᴰ.head (e ∙ q))
      go true c (inr t) ih = rw (eqb-true n a c, splice-at ns) (Memᴰ.tail (Memᴰ.tail (ih t)))
      go false c (inl e) ih = rw (splice-off n ns (eqb-false n a c)) (Memᴰ.head e)
      go false c (inr t) ih = rw (splice-off n ns (eqb-false n a c)) (Memᴰ.tail (ih t))

  -- of b alone the longer list says otherwise
  pub splice-elem : (n : ℕ) (ns : List ℕ) → n ≢ b → elem n (splice a b ns) ≡ elem n ns
  splice-elem n ns z = go (elem n ns) refl
    where
      go : (c : Bool) → elem n ns ≡ c → elem n (splice a b ns) ≡ c
      go true e = (elem-iff n (splice a b ns)).1 (mem-splice n ns ((elem-iff n ns).0 e))
      go false e = elem-splice n ns z e

  -- if a is in the list, b is in it once it is put in after a
  pub splice-in : (ns : List ℕ) → Once a ns → Memᴰ b (splice a b ns)
  splice-in ns o = rw (o.shape, splice-append o.before (a ∷ o.after), splice-at o.after)
      (Memᴰ.append_right (splice a b o.before) (Memᴰ.tail (Memᴰ.head refl)))

  pub distinct-splice : (ns : List ℕ) → distinct ns ≡ true → elem b ns ≡ false → distinct (splice a b ns) ≡ true
  distinct-splice [] d h = rw splice-nil d
  distinct-splice (n ∷ ns) d h =
      go (eqb n a) refl ((distinct-cons n ns).0 d) ((elem-cons b n ns).0 h)
      (distinct-splice ns ((distinct-cons n ns).0 d).1 ((elem-cons b n ns).0 h).1)
    where
      go : (c : Bool) → eqb n a ≡ c → (elem n ns ≡ false) × (distinct ns ≡ true) → (b ≡ n → ⊥) × (elem b ns ≡ false)
          → distinct (splice a b ns) ≡ true → distinct (splice a b (n ∷ ns)) ≡ true
      go true c u w ih =
          let q = eqb-true n a c in
          let e : elem a ns ≡ false = rw q at u.0 in
          let y : a ≡ b → ⊥ = λ t. w.0 (sym t ∙ sym q) in
          let s : splice a b ns ≡ ns = splice-none ns ((elem-false a ns).0 e) in
          rw (q, splice-at ns, s) ((distinct-cons a (b ∷ ns)).1 ((elem-cons a b ns).1 (y, e), (distinct-cons b ns).1 (w.1, u.1)))
      go false c u w ih = rw (splice-off n ns (eqb-false n a c))
          ((distinct-cons n (splice a b ns)).1 (elem-splice n ns (λ t. w.0 (sym t)) u.0, ih))

  -- where a stands once, b stands after it
  pub splice-once : (ns : List ℕ) (o : Once a ns) → splice a b ns ≡ o.before ++ a ∷ b ∷ o.after
  splice-once ns o =
      ap (splice a b) o.shape ∙ splice-append o.before (a ∷ o.after)
      ∙ ap (λ (l : List ℕ). l ++ splice a b (a ∷ o.after)) (splice-none o.before o.not-before)
      ∙ ap (λ (l : List ℕ). o.before ++ l) (splice-at o.after ∙ ap (λ (l : List ℕ). a ∷ b ∷ l) (splice-none o.after o.not-after))

  -- one more
  pub length-splice : (ns : List ℕ) → Once a ns → length (splice a b ns) ≡ suc (length ns)
  length-splice ns o = ap length (splice-once ns o) ∙ one-more o.before ∙ ap (λ (l : List ℕ). suc (length l)) (sym o.shape)
    where
      one-more : (xs : List ℕ) → length (xs ++ a ∷ b ∷ o.after) ≡ suc (length (xs ++ a ∷ o.after))
      one-more [] = refl
      one-more (x ∷ xs) = ap suc (one-more xs)

  -- where all are different, b is none of the others
  pub splice-new : (ns : List ℕ) → Once a ns → distinct (splice a b ns) ≡ true → elem b ns ≡ false
  splice-new ns o d =
      let e = splice-once ns o ∙ sym (append_assoc o.before (a ∷ []) (b ∷ o.after)) in
      ap (elem b) (o.shape ∙ sym (append_assoc o.before (a ∷ []) o.after))
      ∙ ((distinct-middle b (o.before ++ a ∷ []) o.after).0 (rw e at d)).0

  -- what holds of each element of the longer list
  pub each-unsplice : (P : ℕ → Type 0) (ns : List ℕ) → Each P (splice a b ns) → Each P ns
  each-unsplice P [] h = tt
  each-unsplice P (n ∷ ns) h = go (eqb n a) refl (each-unsplice P ns)
    where
      go : (c : Bool) → eqb n a ≡ c → (Each P (splice a b ns) → Each P ns) → Each P (n ∷ ns)
      go true e ih = let q = eqb-true n a e in let k = rw (q, splice-at ns) at h in (rw q k.0, ih k.1.1)
      go false e ih = let k = rw (splice-off n ns (eqb-false n a e)) at h in (k.0, ih k.1)

  -- a stands in both or in neither
  pub unsplice-mem : (ns : List ℕ) → Memᴰ a (splice a b ns) → Memᴰ a ns
  unsplice-mem ns m = go (elem a ns) refl
    where
      go : (c : Bool) → elem a ns ≡ c → Memᴰ a ns
      go true e = (elem-iff a ns).0 e
      go false e = rw (splice-none ns ((elem-false a ns).0 e)) at m
