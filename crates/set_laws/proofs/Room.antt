-- Cells that are more than the numbers in them: one is free. Numbers entered one after the other into free cells.
use Rattle.std.proofs.Common.{◌≡◌, ℕ, suc, ◌+◌, ◌<◌, ◌≤◌, Bool, true, false, ◌||◌, eqb, ◌≢◌, ◌⊎◌, List, [], ◌∷◌, ◌++◌, map, length, get_or}
use Rattle.std.proofs.Common.{replicate, sym, refl, ap, ◌∙◌, inl, inr, ⊎_elim, arith, length-append, length-set, ne_eqb, eqb-true}
use mathlib.Core.Bool.{false≢true}
use Rattle.model.specs.Table.{Words, at}
use Rattle.model.specs.SoundTest.{elem, distinct}
use Rattle.model.specs.Cells.{cell_for, entered, entered_all}
use Rattle.list_laws.proofs.Tools.{Each, same-or-not}
use Rattle.list_laws.proofs.Lists.{at-replicate}
use Rattle.list_laws.proofs.Members.{each-mem, mem-each, each-at, elem-cons, elem-join, elem-false}
use Rattle.list_laws.proofs.Distinct.{distinct-cons, once-distinct}
use Rattle.set_laws.specs.Sets.{SetOf}
use Rattle.set_laws.proofs.Holding.{entered-set}
use Rattle.set_laws.proofs.Marks.{or-turn}

-- ---- a list without repetition of members of another one is no longer

record Cut (x : ℕ) (ns : List ℕ) : Type 0 where
  before : List ℕ
  after : List ℕ
  shape : ns ≡ before ++ x ∷ after

cut-at : (x : ℕ) (ns : List ℕ) → elem x ns ≡ true → Cut x ns
cut-at x [] h = absurd (false≢true (unfold elem in h))
cut-at x (n ∷ ns) h = go (eqb x n) refl (cut-at x ns)
  where
    go : (b : Bool) → eqb x n ≡ b → (elem x ns ≡ true → Cut x ns) → Cut x (n ∷ ns)
    go true e ih = record { before = []; after = ns; shape = ap (λ (m : ℕ). m ∷ ns) (sym (eqb-true x n e)) }
    go false e ih =
        let later : elem x ns ≡ true = unfold elem in (rw e at h) in
        let c = ih later in
        record { before = n ∷ c.before; after = c.after; shape = ap (λ (l : List ℕ). n ∷ l) c.shape }

elem-next : (y x : ℕ) (b : List ℕ) → y ≢ x → elem y (x ∷ b) ≡ elem y b
unfolding elem
elem-next y x b z = ap (λ (q : Bool). q || elem y b) (ne_eqb y x z)

elem-other : (y x : ℕ) (a b : List ℕ) → y ≢ x → elem y (a ++ x ∷ b) ≡ elem y (a ++ b)
elem-other y x a b z = elem-join y a (x ∷ b) ∙ ap (λ (q : Bool). elem y a || q) (elem-next y x b z) ∙ sym (elem-join y a b)

pub sub-length : (xs ns : List ℕ) → distinct xs ≡ true → Each (λ (x : ℕ). elem x ns ≡ true) xs → length xs ≤ length ns
sub-length [] ns d h = omega arith
sub-length (x ∷ xs) ns d h =
    let u = (distinct-cons x xs).0 d in
    let c = cut-at x ns h.0 in
    let a = c.before in
    let b = c.after in
    let rest : Each (λ (y : ℕ). elem y (a ++ b) ≡ true) xs =
    mem-each _ xs (λ y m. sym (elem-other y x a b (λ q. each-mem (λ (n : ℕ). n ≢ x) ((elem-false x xs).0 u.0) m q))
    ∙ ap (elem y) (sym c.shape) ∙ each-mem (λ (y : ℕ). elem y ns ≡ true) h.1 m) in
    omega (arith, sub-length xs (a ++ b) u.1 rest, ap length c.shape, length-append a (x ∷ b), length-append a b)

-- ---- a free cell

map-same : (xs : List ℕ) → map (λ (x : ℕ). x) xs ≡ xs
map-same [] = refl
map-same (x ∷ xs) = ap (λ (l : List ℕ). x ∷ l) (map-same xs)

pub record Free (cs : Words) : Type 0 where
  pub cell : ℕ
  pub inside : cell < length cs
  pub free : at cs cell ≡ 0

free-or-full : (cs : Words) → Free cs ⊎ Each (λ (c : ℕ). c ≢ 0) cs
free-or-full [] = inr tt
free-or-full (c ∷ cs) = go (same-or-not c 0) (free-or-full cs)
  where
    go : (c ≡ 0) ⊎ (c ≢ 0) → Free cs ⊎ Each (λ (c : ℕ). c ≢ 0) cs → Free (c ∷ cs) ⊎ Each (λ (c : ℕ). c ≢ 0) (c ∷ cs)
    go (inl e) r = inl (record { cell = 0; inside = omega arith; free = e })
    go (inr z) (inl f) = inl (record { cell = suc f.cell; inside = omega (arith, f.inside); free = f.free })
    go (inr z) (inr f) = inr (z, f)

-- cells that hold fewer numbers than there are cells have a free one among them
pub room : (cs : Words) (ns : List ℕ) → SetOf cs (λ (x : ℕ). elem x ns) → length ns < length cs → Free cs
room cs ns s l = ⊎_elim (λ f. f) (λ full. absurd (omega (arith, sub-length cs ns (once full) (members full)))) (free-or-full cs)
  where
    some : Each (λ (c : ℕ). c ≢ 0) cs → (i : ℕ) → i < length cs → at cs i ≢ 0
    some full i h = each-at (λ (c : ℕ). c ≢ 0) cs 0 i h full

    once : Each (λ (c : ℕ). c ≢ 0) cs → distinct cs ≡ true
    once full = ap distinct (sym (map-same cs)) ∙ once-distinct (λ (x : ℕ). x) 0 cs (λ i j a b e. s.once i j (some full i a) e)

    members : Each (λ (c : ℕ). c ≢ 0) cs → Each (λ (x : ℕ). elem x ns ≡ true) cs
    members full = each-index cs (λ i h. s.known i (some full i h))
      where
        each-index : (xs : List ℕ) → ((i : ℕ) → i < length xs → elem (get_or xs i 0) ns ≡ true) → Each (λ (x : ℕ). elem x ns ≡ true) xs
        each-index [] h = tt
        each-index (x ∷ xs) h = (h 0 (omega arith), each-index xs (λ i l. h (suc i) (omega arith)))

-- ---- from nothing on

-- cells that are all 0 hold the empty set
pub none-set : (n : ℕ) → SetOf (replicate n 0) (λ (x : ℕ). elem x [])
none-set n = record {
  known = λ i z. absurd (z (at-replicate n i));
  found = λ x e. absurd (false≢true (unfold elem in e));
  once = λ i j z e. absurd (z (at-replicate n i));
}

-- cells that hold a set hold every set that has the same members
pub same-set : (cs : Words) (f g : ℕ → Bool) → ((x : ℕ) → f x ≡ g x) → SetOf cs f → SetOf cs g
same-set cs f g e s = record { known = λ i z. sym (e (at cs i)) ∙ s.known i z; found = λ x h. s.found x (e x ∙ h); once = s.once }

-- entering a number keeps the number of cells
pub entered-length : (cs : Words) (x : ℕ) → length (entered cs x) ≡ length cs
unfolding entered
entered-length cs x = length-set cs (cell_for cs x) x

-- if cells that hold ns have room, and x is new and not 0, they hold x and ns once x is entered
pub entered-one : (cs : Words) (ns : List ℕ) (x : ℕ) → SetOf cs (λ (y : ℕ). elem y ns) → elem 0 ns ≡ false → x ≢ 0 → elem x ns ≡ false
    → length ns < length cs → SetOf (entered cs x) (λ (y : ℕ). elem y (x ∷ ns))
unfolding elem
entered-one cs ns x s z r n l =
    let f = room cs ns s l in
    (entered-set (length cs) cs (λ (y : ℕ). elem y ns) (omega arith) z refl s x r n f.cell f.inside f.free)

-- numbers that differ, none of them 0, are held in the order of a set
pub entered-all : (xs ns : List ℕ) (cs : Words) → SetOf cs (λ (y : ℕ). elem y ns) → elem 0 ns ≡ false → Each (λ (x : ℕ). x ≢ 0) xs
    → distinct xs ≡ true → Each (λ (x : ℕ). elem x ns ≡ false) xs
    → length xs + length ns ≤ length cs → SetOf (entered_all cs xs) (λ (y : ℕ). elem y xs || elem y ns)
unfolding entered_all elem
entered-all [] ns cs s z r d n l = s
entered-all (x ∷ xs) ns cs s z r d n l =
    let u = (distinct-cons x xs).0 d in
    let after = entered-one cs ns x s z r.0 n.0 (omega arith) in
    let later : Each (λ (y : ℕ). elem y (x ∷ ns) ≡ false) xs =
    mem-each _ xs (λ y m. (elem-cons y x ns).1
    (each-mem (λ (w : ℕ). w ≢ x) ((elem-false x xs).0 u.0) m, each-mem (λ (w : ℕ). elem w ns ≡ false) n.1 m)) in
    same-set _ _ _ (λ y. swap y)
    (entered-all xs (x ∷ ns) (entered cs x) after ((elem-cons 0 x ns).1 ((λ q. r.0 (sym q)), z)) r.1 u.1 later
    (omega (arith, entered-length cs x)))
  where
    swap : (y : ℕ) → (elem y xs || elem y (x ∷ ns)) ≡ (elem y (x ∷ xs) || elem y ns)
    swap y = or-turn (elem y xs) (eqb y x) (elem y ns)
