-- Numbers entered one by one into free cells: what the answer tells of them.
use Rattle.std.proofs.Common.{◌≡◌, ℕ, ◌%◌, Bool, true, false, List, [], ◌∷◌, ◌++◌, replicate, sym, refl, ap, ◌∙◌, subst, append-nil, arith}
use mathlib.Core.Bool.{false≢true}
use Rattle.model.specs.Table.{Words}
use Rattle.model.specs.Reached.{filter}
use Rattle.model.specs.SoundTest.{elem, distinct}
use Rattle.list_laws.proofs.Tools.{refuted, same-test}
use Rattle.list_laws.proofs.Members.{elem-append}
use Rattle.list_laws.proofs.Filters.{filter-yes, filter-no}
use Rattle.list_laws.proofs.Distinct.{distinct-cons, distinct-middle}
use Rattle.std.specs.Prelude.{Ok, Err}
use Rattle.numbers.specs.declared.Stop.{Stop}
use Rattle.numbers.specs.declared.Stop.TheVariants.{Known, Full}
use Rattle.numbers.specs.Cells.{TRIES, CELLS, Entry, mixed, Outcome, outcome, entered, followed, entered_if, entered_all, Tells}
use Rattle.numbers.specs.Filed.{Filed}
use Rattle.numbers.proofs.Filed.{Told, told, filed-none, known-number, new-number, filed-more}

-- ---- a list in two parts

-- a number that passes p is entered
pub if-yes : (p : ℕ → Bool) (cs : Words) (x : ℕ) → p x ≡ true → entered_if p cs x ≡ entered TRIES cs x
unfolding entered_if
if-yes p cs x e = rw (e, entered_if)

-- a number that fails p leaves the cells as they are
pub if-no : (p : ℕ → Bool) (cs : Words) (x : ℕ) → p x ≡ false → entered_if p cs x ≡ outcome (Ok tt) cs
unfolding entered_if
if-no p cs x e = rw (e, entered_if)

followed-twice : (f g h : Words → Outcome) → ((cs : Words) → h cs ≡ followed (f cs) g) → (e : Entry) (after : Words)
    → followed (outcome e after) h ≡ followed (followed (outcome e after) f) g
followed-twice f g h q (Ok x) after = q after
followed-twice f g h q (Err s) after = refl

-- entering joined lists of numbers is entering the one and, if that went well, the other
pub all-append : (p : ℕ → Bool) (xs ys : List ℕ) (cs : Words) → entered_all p (xs ++ ys) cs
    ≡ followed (entered_all p xs cs) (entered_all p ys)
unfolding entered_all
all-append p [] ys cs = refl
all-append p (x ∷ xs) ys cs =
    followed-twice (entered_all p xs) (entered_all p ys) (entered_all p (xs ++ ys)) (all-append p xs ys) (entered_if p cs x).answer
    (entered_if p cs x).cells

-- ---- what a loop goes on with, or ends with, after an answer

-- an answer after which no number is entered
abbrev pub Last : Entry → Type 0
Last e = (next : Words → Outcome) (cs : Words) → followed (outcome e cs) next ≡ outcome e cs

-- after a number that is known or finds no cell, no number is entered
pub stop-last : (s : Stop) → Last (Err s)
stop-last s next cs = refl

module _ (next : Words → Outcome) (whole o : Outcome) (e : Entry) (after : Words) (h : whole ≡ followed o next)
    (q : outcome e after ≡ o) where
  answered : (s : Entry) → e ≡ s → whole ≡ followed (outcome s after) next
  answered s a = h ∙ ap (λ (x : Outcome). followed x next) (sym q) ∙ ap (λ (x : Entry). followed (outcome x after) next) a

  -- after a number that is entered, the answer of the next ones is the whole answer
  pub goes-on : e ≡ Ok tt → next after ≡ whole
  goes-on a = sym (answered (Ok tt) a)

  -- a number that is known or finds no cell ends the answer
  pub ends : (s : Entry) → Last s → e ≡ s → outcome s after ≡ whole
  ends s l a = sym (answered s a ∙ l next after)

-- ---- what the answer tells

-- the cells hold these numbers, none of them twice
record Rel (cs : Words) (xs : List ℕ) : Type 0 where
  filed : Filed TRIES CELLS cs (λ (r : ℕ). elem r xs)
  apart : distinct xs ≡ true

-- a number comes first or after others
moved : (y : ℕ) (xs zs : List ℕ) → distinct (y ∷ (xs ++ zs)) ≡ distinct (xs ++ y ∷ zs)
moved y xs zs = same-test (distinct (y ∷ (xs ++ zs))) (distinct (xs ++ y ∷ zs)) (
  (λ h. (distinct-middle y xs zs).1 ((distinct-cons y (xs ++ zs)).0 h)),
  λ h. (distinct-cons y (xs ++ zs)).1 ((distinct-middle y xs zs).0 h),
)

twice : (y : ℕ) (xs zs : List ℕ) → elem y xs ≡ true → distinct (xs ++ y ∷ zs) ≡ false
twice y xs zs e = refuted (distinct (xs ++ y ∷ zs))
    (λ h. false≢true (sym ((elem-append y xs zs).0 ((distinct-middle y xs zs).0 h).0).0 ∙ e))

-- what the answer says of one list holds of another that has a number twice exactly if the first has
pub tells-same : (e : Entry) (us vs : List ℕ) → distinct us ≡ distinct vs → Tells e us → Tells e vs
tells-same (Ok x) us vs q h = sym q ∙ h
tells-same (Err Known) us vs q h = sym q ∙ h
tells-same (Err Full) us vs q h = tt

-- one number more
module _ (y : ℕ) (xs zs : List ℕ) (cs : Words) (g : Rel cs xs) (next : Words → Outcome)
    (ih : (after : Words) → Rel after (y ∷ xs) → Tells (next after).answer (y ∷ (xs ++ zs))) where
  tells-told : (e : Entry) (after : Words) → Told CELLS cs y (mixed y % CELLS) TRIES e after
      → Tells (followed (outcome e after) next).answer (xs ++ y ∷ zs)
  tells-told (Ok x) after s =
      let new = new-number TRIES CELLS cs (λ (r : ℕ). elem r xs) g.filed y after s in
      tells-same (next after).answer (y ∷ (xs ++ zs)) (xs ++ y ∷ zs) (moved y xs zs)
      (ih after (record {
        filed = unfold elem in filed-more TRIES CELLS cs (λ (r : ℕ). elem r xs) g.filed y after s;
        apart = (distinct-cons y xs).1 (new, g.apart);
      }))
  tells-told (Err Known) after s = twice y xs zs (known-number TRIES CELLS cs (λ (r : ℕ). elem r xs) g.filed y after s)
  tells-told (Err Full) after s = tt

  tells-entered : Tells (followed (entered TRIES cs y) next).answer (xs ++ y ∷ zs)
  tells-entered = tells-told (entered TRIES cs y).answer (entered TRIES cs y).cells (told CELLS TRIES cs y g.filed.long (omega arith))

tells-rest : (p : ℕ → Bool) (ys xs : List ℕ) (cs : Words) → Rel cs xs → Tells (entered_all p ys cs).answer (xs ++ filter p ys)
unfolding entered_all filter
tells-rest p [] xs cs g = ap distinct (append-nil xs) ∙ g.apart
tells-rest p (y ∷ ys) xs cs g = go (p y) refl (λ zs after h. tells-rest p ys zs after h)
  where
    go : (b : Bool) → p y ≡ b → ((zs : List ℕ) (after : Words) → Rel after zs → Tells (entered_all p ys after).answer (zs ++ filter p ys))
        → Tells (entered_all p (y ∷ ys) cs).answer (xs ++ filter p (y ∷ ys))
    go true e ih = rw (filter-yes p y ys e, if-yes p cs y e) (tells-entered y xs (filter p ys) cs g (entered_all p ys) (ih (y ∷ xs)))
    go false e ih = rw (filter-no p y ys e, if-no p cs y e) (ih xs cs g)

-- entering the numbers of ys that pass p into free cells shows whether one of them comes twice
pub all-tells : (p : ℕ → Bool) (ys : List ℕ) (e : Entry) (after : Words) → outcome e after
    ≡ entered_all p ys (replicate CELLS 0) → Tells e (filter p ys)
all-tells p ys e after q =
    subst (λ (x : Entry). Tells x (filter p ys)) (sym (ap (λ (o : Outcome). o.answer) q))
    (tells-rest p ys [] (replicate CELLS 0) (record { filed = unfold elem in filed-none TRIES CELLS; apart = unfold distinct in refl }))
