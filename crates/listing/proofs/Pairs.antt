-- Pairs taken one by one come to what the definitions of a listing say; pairs taken in parts, and when no further one is written.
use Rattle.std.proofs.Common.{◌≡◌, ℕ, ◌+◌, ◌*◌, ◌/◌, ◌<◌, ◌≤◌, Bool, true, false, cond, ltb, leb, List, [], ◌∷◌, ◌++◌, length, take, drop}
use Rattle.std.proofs.Common.{set, sym, refl, ap, ◌∙◌, append_assoc, append-nil, div-mul-le_self, add-one, arith, length-append}
use Rattle.std.proofs.Common.{length-drop, length-take-le, take_all, drop-drop, take_at, drop_at, le-ltb, lt-ltb, leb-false, leb-true}
use lib.Seq.{take-append-le, sets-eq}
use Rattle.model.specs.Table.{Words}
use Rattle.model.specs.Slots.{Slot, slot_words}
use Rattle.model.specs.Results.{page_with}
use Rattle.model.specs.declared.Page.{Page}
use Rattle.model.specs.Listing.{fitting, listed, listed_words}
use Rattle.list_laws.proofs.Slots.{length-pairs}
use Rattle.listing.specs.Taking.{Sheet, sheet, begun, written, passed, taken, all_taken}
use Rattle.listing.proofs.Steps.{pair-left, pair-written}

-- the sheet after pairs, by the definitions
abbrev pub after : List Slot → Words → Sheet
after ss out =
    record {
      words = listed_words ss out;
      count = length (fitting (length out) ss);
      more = ltb (length (fitting (length out) ss)) (length ss);
    }

pairs-append : (a b : List Slot) → slot_words (a ++ b) ≡ slot_words a ++ slot_words b
pairs-append [] b = refl
pairs-append (s ∷ a) b = ap (λ (ws : Words). s.key ∷ s.pointer ∷ ws) (pairs-append a b)

-- pairs that fit leave the slice its length
length-kept : (ss : List Slot) (out : Words) → length ss ≤ length out / 2 → length (slot_words ss ++ drop (2 * length ss) out) ≡ length out
length-kept ss out h =
    length-append (slot_words ss) (drop (2 * length ss) out)
    ∙ omega (arith, length-pairs ss, length-drop (2 * length ss) out, div-mul-le_self (length out) 2)

-- while all pairs fit
after-few : (ss : List Slot) (out : Words) → length ss ≤ length out / 2 → after ss out
    ≡ record { words = slot_words ss ++ drop (2 * length ss) out; count = length ss; more = false }
unfolding listed_words
after-few ss out h = rw (take_all (length out / 2) ss h, le-ltb (length ss) (length ss) (omega arith))

module _ (ss : List Slot) (out : Words) (s : Slot) where
  abbrev most : ℕ
  most = length out / 2

  abbrev all : List Slot
  all = ss ++ s ∷ []

  longer : length all ≡ length ss + 1
  longer = length-append ss (s ∷ [])

  -- two words stored after those of the pairs before them
  store-pair : length ss < most → set (set (slot_words ss ++ drop (2 * length ss) out) (2 * length ss) s.key) (2 * length ss + 1) s.pointer
      ≡ slot_words all ++ drop (2 * length all) out
  store-pair h =
      let n = 2 * length ss in
      let l = slot_words ss ++ drop n out in
      let pair = s.key ∷ s.pointer ∷ [] in
      let fits : n + 2 ≤ length l = omega (arith, length-kept ss out (omega arith), div-mul-le_self (length out) 2) in
      let head : take n l ≡ slot_words ss = take_at (slot_words ss) (drop n out) n (length-pairs ss) in
      let past : drop (n + 2) l ≡ drop (n + 2) out =
      sym (drop-drop 2 n l) ∙ ap (drop 2) (drop_at (slot_words ss) (drop n out) n (length-pairs ss)) ∙ drop-drop 2 n out in
      let end : 2 * length all ≡ n + 2 = omega (arith, longer) in
      ap (λ (j : ℕ). set (set l n s.key) j s.pointer) (add-one n) ∙ sets-eq pair l n fits ∙ rw (head, past, pairs-append ss (s ∷ []), end)

  next-fits : length ss < most → taken s (after ss out) ≡ after all out
  next-fits h =
      let more : length all ≤ most = omega (arith, longer) in
      ap (taken s) (after-few ss out (omega arith)) ∙ sym (pair-written s _ (omega (arith, length-kept ss out (omega arith))))
      ∙ rw (store-pair h, ← longer) (sym (after-few all out more))

  next-left : most ≤ length ss → taken s (after ss out) ≡ after all out
  unfolding listed_words
  next-left h =
      let count : length (fitting (length out) ss) ≡ most = length-take-le most ss h in
      let same : fitting (length out) all ≡ fitting (length out) ss = take-append-le most ss (s ∷ []) h in
      let more : ltb (length (fitting (length out) ss)) (length all) ≡ true =
      lt-ltb (length (fitting (length out) ss)) (length all) (omega (arith, longer)) in
      sym (pair-left s (after ss out) (omega (arith, length-kept (fitting (length out) ss) out (omega arith)))) ∙ rw (same, more)

  next : taken s (after ss out) ≡ after all out
  next = go (leb most (length ss)) refl
    where
      go : (b : Bool) → leb most (length ss) ≡ b → taken s (after ss out) ≡ after all out
      go true c = next-left (leb-true most (length ss) c)
      go false c = next-fits (leb-false most (length ss) c)

-- pairs taken after others
taken-after : (ps ss : List Slot) (out : Words) → all_taken ps (after ss out) ≡ after (ss ++ ps) out
unfolding all_taken
taken-after [] ss out = ap (λ (l : List Slot). after l out) (sym (append-nil ss))
taken-after (s ∷ ps) ss out =
    ap (all_taken ps) (next ss out s) ∙ taken-after ps (ss ++ s ∷ []) out
    ∙ ap (λ (l : List Slot). after l out) (append_assoc ss (s ∷ []) ps)

-- all the pairs of a listing
taken-all : (ps : List Slot) (out : Words) → all_taken ps (begun out) ≡ after ps out
taken-all ps out = ap (all_taken ps) (sym (after-few [] out (omega arith))) ∙ taken-after ps [] out

-- answer and slice are then the definitions'
pub all-listed : (ps : List Slot) (out u : Words) (p : Page) → sheet u p ≡ all_taken ps (begun out)
    → (page_with p.count p.more ≡ listed ps (length out)) × (u ≡ listed_words ps out)
unfolding listed
all-listed ps out u p w = let all =
    w ∙ taken-all ps out in (ap (λ (x : Sheet). page_with x.count x.more) all, ap (λ (x : Sheet). x.words) all)

-- ---- pairs taken in parts

pub taken-append : (a b : List Slot) (x : Sheet) → all_taken (a ++ b) x ≡ all_taken b (all_taken a x)
unfolding all_taken
taken-append [] b x = refl
taken-append (s ∷ a) b x = taken-append a b (taken s x)

-- ---- once a pair is left, no further one is written

-- a pair was left only where no further one fits
abbrev pub Spent : Sheet → Type 0
Spent x = x.more ≡ true → length x.words / 2 ≤ x.count

spent-one : (s : Slot) (x : Sheet) → Spent x → Spent (taken s x)
unfolding taken
spent-one s x h = go (leb (length x.words / 2) x.count) refl
  where
    go : (b : Bool) → leb (length x.words / 2) x.count ≡ b → Spent (cond b (passed x) (written s x))
    go true c m = leb-true _ _ c
    go false c m = absurd (omega (arith, h m, leb-false (length x.words / 2) x.count c))

spent-all : (ss : List Slot) (x : Sheet) → Spent x → Spent (all_taken ss x)
unfolding all_taken
spent-all [] x h = h
spent-all (s ∷ ss) x h = spent-all ss (taken s x) (spent-one s x h)

pub spent-after : (ss : List Slot) (x y : Sheet) → Spent x → y ≡ all_taken ss x → Spent y
spent-after ss x y h e = rw e (spent-all ss x h)

pub spent-stop : (ss : List Slot) (x : Sheet) → Spent x → x.more ≡ true → all_taken ss x ≡ x
unfolding all_taken
spent-stop [] x h m = refl
spent-stop (s ∷ ss) x h m =
    let same : taken s x ≡ x =
    sym (pair-left s x (h m)) ∙ ap (λ (b : Bool). record { words = x.words; count = x.count; more = b }) (sym m) in
    ap (all_taken ss) same ∙ spent-stop ss x h m
