-- Lists without repetition: joined, split, and how long they may be.
use Rattle.std.proofs.Common.{◌≡◌, ℕ, zero, suc, ◌<◌, ◌≤◌, Bool, true, false, not, eqb, ◌≢◌, ◌↔◌, List, [], ◌∷◌, ◌++◌, map, length, get_or}
use Rattle.std.proofs.Common.{sym, refl, ap, ◌∙◌, ⊎_elim, arith, length-append, eqb-true}
use mathlib.Core.List.Memᴰ
use mathlib.Core.List.{Memᴰ}
use borrow.Author.Tests.{eqb-false}
use Rattle.model.specs.Reached.{flat}
use Rattle.model.specs.SoundTest.{elem, distinct}
use Rattle.list_laws.proofs.Tools.{and-iff, not-iff, same-or-not, Each, Each-append, Each-split, Each-map}
use Rattle.list_laws.proofs.Members.{each-mem, mem-each, get_d-in, index-of, elem-iff, elem-false, elem-none, elem-cons, elem-append}
use Rattle.list_laws.proofs.Members.{mem-flat}

-- a list has no repetition exactly if its rest has none and lacks the first item
pub distinct-cons : (n : ℕ) (ns : List ℕ) → (distinct (n ∷ ns) ≡ true) ↔ ((elem n ns ≡ false) × (distinct ns ≡ true))
unfolding distinct
distinct-cons n ns = (
  λ h. let u = (and-iff (not (elem n ns)) (distinct ns)).0 h in ((not-iff _).0 u.0, u.1),
  λ u. (and-iff (not (elem n ns)) (distinct ns)).1 ((not-iff _).1 u.0, u.1),
)

-- x stands in the list at one place
pub record Once (x : ℕ) (xs : List ℕ) : Type 0 where
  pub before : List ℕ
  pub after : List ℕ
  pub shape : xs ≡ before ++ x ∷ after
  pub not-before : Each (λ (n : ℕ). n ≢ x) before
  pub not-after : Each (λ (n : ℕ). n ≢ x) after

-- a member of a list without repetition stands in it at one place
pub once : (x : ℕ) (xs : List ℕ) → distinct xs ≡ true → Memᴰ x xs → Once x xs
once x [] d m = absurd (Memᴰ.not-nil m)
once x (y ∷ ys) d m = let u = (distinct-cons y ys).0 d in go (eqb x y) refl u (once x ys u.1)
  where
    go : (b : Bool) → eqb x y ≡ b → (elem y ys ≡ false) × (distinct ys ≡ true) → (Memᴰ x ys → Once x ys) → Once x (y ∷ ys)
    go true c u ih =
        let e = eqb-true x y c in
        record {
          before = [];
          after = ys;
          shape = ap (λ (n : ℕ). n ∷ ys) (sym e);
          not-before = tt;
          not-after = (elem-false x ys).0 (rw e u.0);
        }
    go false c u ih =
        let o = ih (⊎_elim (λ e. absurd (eqb-false x y c e)) (λ t. t) (Memᴰ.cases_cons m)) in
        record {
          before = y ∷ o.before;
          after = o.after;
          shape = ap (λ (l : List ℕ). y ∷ l) o.shape;
          not-before = (λ q. eqb-false x y c (sym q), o.not-before);
          not-after = o.not-after;
        }

-- a joined list has no repetition exactly if neither part has one and the parts have nothing in common
pub distinct-append :
    (a b : List ℕ) → (distinct (a ++ b) ≡ true) ↔ ((distinct a ≡ true) × (distinct b ≡ true) × Each (λ (n : ℕ). elem n b ≡ false) a)
distinct-append [] b = (λ d. (unfold distinct in refl, d, tt), λ u. u.1)
distinct-append (x ∷ a) b = (
  λ d.
      let u = (distinct-cons x (a ++ b)).0 d in
      let w = (elem-append x a b).0 u.0 in
      let i = (distinct-append a b).0 u.1 in
      ((distinct-cons x a).1 (w.0, i.0), i.1, (w.1, i.2)),
  λ u.
      let w = (distinct-cons x a).0 u.0 in
      (distinct-cons x (a ++ b)).1 ((elem-append x a b).1 (w.0, u.2.0), (distinct-append a b).1 (w.1, u.1, u.2.1)),
)

-- one number more, or less
pub distinct-middle : (x : ℕ) (p q : List ℕ) → (distinct (p ++ x ∷ q) ≡ true) ↔ ((elem x (p ++ q) ≡ false) × (distinct (p ++ q) ≡ true))
distinct-middle x [] q = distinct-cons x q
distinct-middle x (y ∷ p) q = (
  λ d.
      let u = (distinct-cons y (p ++ x ∷ q)).0 d in
      let w = (distinct-middle x p q).0 u.1 in
      let a = (elem-append y p (x ∷ q)).0 u.0 in
      let c = (elem-cons y x q).0 a.1 in
      ((elem-cons x y (p ++ q)).1 (λ e. c.0 (sym e), w.0), (distinct-cons y (p ++ q)).1 ((elem-append y p q).1 (a.0, c.1), w.1)),
  λ w.
      let u = (elem-cons x y (p ++ q)).0 w.0 in
      let d = (distinct-cons y (p ++ q)).0 w.1 in
      let a = (elem-append y p q).0 d.0 in
      (distinct-cons y (p ++ x ∷ q)).1
      ((elem-append y p (x ∷ q)).1 (a.0, (elem-cons y x q).1 (λ e. u.0 (sym e), a.1)), (distinct-middle x p q).1 (u.1, d.1)),
)

-- ---- joined lists

-- an element of lists joined without repetition stands in one of them, once
pub record OneOf (g : ℕ → List ℕ) (ns : List ℕ) (x : ℕ) : Type 0 where
  pub it : ℕ
  pub member : Memᴰ it ns
  pub parted : distinct (g it) ≡ true
  pub inside : Memᴰ x (g it)
  pub only : Each (λ (n : ℕ). n ≢ it → elem x (g n) ≡ false) ns

-- a number that is not in the joined lists is in none of them
pub flat-off : (g : ℕ → List ℕ) (ns : List ℕ) (x : ℕ) → elem x (flat g ns) ≡ false → Each (λ (n : ℕ). elem x (g n) ≡ false) ns
unfolding flat
flat-off g [] x h = tt
flat-off g (n ∷ ns) x h = let u = (elem-append x (g n) (flat g ns)).0 h in (u.0, flat-off g ns x u.1)

-- x is in b, and a has nothing of b
apart : (x : ℕ) (a b : List ℕ) → Each (λ (n : ℕ). elem n b ≡ false) a → Memᴰ x b → elem x a ≡ false
apart x a b h m = (elem-false x a).1
    (Each-map (λ (n : ℕ). elem n b ≡ false) (λ (n : ℕ). n ≢ x) a (λ n q e. (elem-none x b).0 (rw e at q) m) h)

-- a number of lists that are joined without repetition is in just one of them
pub flat-one : (g : ℕ → List ℕ) (ns : List ℕ) (x : ℕ) → distinct (flat g ns) ≡ true → Memᴰ x (flat g ns) → OneOf g ns x
unfolding flat
flat-one g [] x d m = absurd (Memᴰ.not-nil m)
flat-one g (n ∷ ns) x d m =
    let u = (distinct-append (g n) (flat g ns)).0 d in
    ⊎_elim
    (λ h. record {
      it = n;
      member = Memᴰ.head refl;
      parted = u.0;
      inside = h;
      only = (
        λ z. absurd (z refl),
        Each-map (λ (k : ℕ). elem x (g k) ≡ false) (λ (k : ℕ). k ≢ n → elem x (g k) ≡ false) ns (λ k q z. q)
            (flat-off g ns x (each-mem (λ (y : ℕ). elem y (flat g ns) ≡ false) u.2 h)),
      );
    })
    (λ t.
    let r = flat-one g ns x u.1 t in
    record {
      it = r.it;
      member = Memᴰ.tail r.member;
      parted = r.parted;
      inside = r.inside;
      only = (λ z. apart x (g n) (flat g ns) u.2 t, r.only);
    })
    (Memᴰ.append_cases (g n) m)

-- so lists that have a common element are one
pub flat-apart : (g : ℕ → List ℕ) {x y c : ℕ} (ns : List ℕ) → distinct (flat g ns) ≡ true → Memᴰ x ns → Memᴰ y ns
    → Memᴰ c (g x) → Memᴰ c (g y) → x ≡ y
flat-apart g {x} {y} {c} ns d m k a b = let o = flat-one g ns c d ((mem-flat g c ns).1 (x, m, a)) in is o m a ∙ sym (is o k b)
  where
    is : (o : OneOf g ns c) {n : ℕ} → Memᴰ n ns → Memᴰ c (g n) → n ≡ o.it
    is o {n} i h = ⊎_elim (λ e. e)
        (λ z. absurd ((elem-none c (g n)).0 (each-mem (λ (k : ℕ). k ≢ o.it → elem c (g k) ≡ false) o.only i z) h)) (same-or-not n o.it)

-- each of them is without repetition
pub distinct-part : (g : ℕ → List ℕ) (ns : List ℕ) (n : ℕ) → distinct (flat g ns) ≡ true → Memᴰ n ns → distinct (g n) ≡ true
unfolding flat
distinct-part g [] n d m = absurd (Memᴰ.not-nil m)
distinct-part g (y ∷ ns) n d m =
    let u = (distinct-append (g y) (flat g ns)).0 d in
    ⊎_elim (λ e. rw e u.0) (λ t. distinct-part g ns n u.1 t) (Memᴰ.cases_cons m)

-- lists without repetition that have nothing in common join to one
pub distinct-flat : (g : ℕ → List ℕ) (ns : List ℕ) → distinct ns ≡ true → ((n : ℕ) → Memᴰ n ns → distinct (g n) ≡ true)
    → ((m n c : ℕ) → Memᴰ m ns → Memᴰ n ns → Memᴰ c (g m) → Memᴰ c (g n) → m ≡ n) → distinct (flat g ns) ≡ true
unfolding flat
distinct-flat g [] d e a = unfold distinct in refl
distinct-flat g (n ∷ ns) d e a =
    let u = (distinct-cons n ns).0 d in
    let off : (c : ℕ) → Memᴰ c (g n) → Memᴰ c (flat g ns) → ⊥ = λ c m k.
    let w = (mem-flat g c ns).0 k in (elem-none n ns).0 u.0 (Memᴰ.cast (a n w.0 c (Memᴰ.head refl) (Memᴰ.tail w.1) m w.2) w.1) in
    (distinct-append (g n) (flat g ns)).1 (
      e n (Memᴰ.head refl),
      distinct-flat g ns u.1 (λ m k. e m (Memᴰ.tail k)) (λ m k c i o. a m k c (Memᴰ.tail i) (Memᴰ.tail o)),
      mem-each
          (λ (c : ℕ). elem c (flat g ns) ≡ false) (g n) (λ c m. (elem-none c (flat g ns)).1 (off c m)),
    )

-- ---- by index

-- f takes different values along xs: from and to distinctness
pub distinct-once : {A : Type 0} (f : A → ℕ) (d : A) (xs : List A) (i j : ℕ) → distinct (map f xs) ≡ true → i < length xs → j < length xs
    → f (get_or xs i d) ≡ f (get_or xs j d) → i ≡ j
distinct-once f d [] i j h a b e = absurd (omega arith)
distinct-once f d (x ∷ xs) zero zero h a b e = refl
distinct-once f d (x ∷ xs) zero (suc j) h a b e =
    absurd ((elem-none (f x) (map f xs)).0 ((distinct-cons (f x) (map f xs)).0 h).0
    (Memᴰ.cast e (Memᴰ.map f (get_d-in d xs j (omega arith)))))
distinct-once f d (x ∷ xs) (suc i) zero h a b e =
    absurd ((elem-none (f x) (map f xs)).0 ((distinct-cons (f x) (map f xs)).0 h).0
    (Memᴰ.cast (sym e) (Memᴰ.map f (get_d-in d xs i (omega arith)))))
distinct-once f d (x ∷ xs) (suc i) (suc j) h a b e =
    ap suc (distinct-once f d xs i j ((distinct-cons (f x) (map f xs)).0 h).1 (omega arith) (omega arith) e)

-- if f takes different values at different indices of xs, the list of its values has no repetition
pub once-distinct : {A : Type 0} (f : A → ℕ) (d : A) (xs : List A)
    → ((i j : ℕ) → i < length xs → j < length xs → f (get_or xs i d) ≡ f (get_or xs j d) → i ≡ j) → distinct (map f xs) ≡ true
once-distinct f d [] h = unfold distinct in refl
once-distinct f d (x ∷ xs) h =
    (distinct-cons (f x) (map f xs)).1 (
      (elem-none (f x) (map f xs)).1
          (λ m. let u = Memᴰ.of_map f xs m in let w = index-of d u.1 in let z : ◌≡◌ {A = ℕ} 0 (suc w.0) = h 0 (suc w.0) (omega arith)
          (omega arith) (sym u.2 ∙ ap f w.2) in omega arith),
      once-distinct f d xs (λ i j a b e. let z : suc i ≡ suc j = h (suc i) (suc j) (omega arith) (omega arith) e in omega arith),
    )

-- ---- the pigeonhole

-- i is from 1 to n
abbrev pub UpTo : ℕ → ℕ → Type 0
UpTo n i = (1 ≤ i) × (i ≤ n)

below-top : (n : ℕ) (xs : List ℕ) → Each (λ (i : ℕ). i ≢ suc n) xs → Each (UpTo (suc n)) xs → Each (UpTo n) xs
below-top n [] z h = tt
below-top n (x ∷ xs) z h = ((h.0.0, omega (arith, z.0, h.0.1)), below-top n xs z.1 h.1)

-- a list without repetition of numbers from 1 to n is at most n long
pub pigeonhole : (n : ℕ) (xs : List ℕ) → distinct xs ≡ true → Each (UpTo n) xs → length xs ≤ n
pigeonhole zero [] d h = omega arith
pigeonhole zero (x ∷ xs) d h = absurd (omega (arith, h.0.0, h.0.1))
pigeonhole (suc n) xs d h = go (elem (suc n) xs) refl (pigeonhole n)
  where
    go : (b : Bool) → elem (suc n) xs ≡ b → ((ys : List ℕ) → distinct ys ≡ true → Each (UpTo n) ys → length ys ≤ n) → length xs ≤ suc n
    go true c ih =
        let o = once (suc n) xs d ((elem-iff (suc n) xs).0 c) in
        let a = o.before in
        let b = o.after in
        let w = (distinct-append a (suc n ∷ b)).0 (rw o.shape at d) in
        let dd : distinct (a ++ b) ≡ true =
        (distinct-append a b).1
        (w.0, ((distinct-cons (suc n) b).0 w.1).1, Each-map _ _ a (λ x e. ((elem-append x (suc n ∷ []) b).0 e).1) w.2) in
        let e = Each-split (UpTo (suc n)) a (suc n ∷ b) (rw o.shape at h) in
        let l = ih (a ++ b) dd (Each-append (UpTo n) a b (below-top n a o.not-before e.0) (below-top n b o.not-after e.1.1)) in
        omega (arith, length-append a b, ap length o.shape, length-append a (suc n ∷ b))
    go false c ih = let l = ih xs d (below-top n xs ((elem-false (suc n) xs).0 c) h) in omega arith
