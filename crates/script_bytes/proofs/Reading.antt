-- A line read byte by byte asks what document 01's form of the line asks.
use Rattle.std.proofs.Common.{◌≡◌, ℕ, ◌+◌, ◌*◌, ◌≤◌, min, Bool, true, false, cond, ◌&&◌, eqb, ltb, leb, List, [], ◌∷◌, ◌++◌, map, length}
use Rattle.std.proofs.Common.{take, replicate, sym, refl, ap, ◌∙◌, append_assoc, append-nil, add-one, arith, length-append, length-set}
use Rattle.std.proofs.Common.{take_all, take-suc-set, ltb-false, ltb-true, ne_eqb, eqb-true, le-leb, leb-false, leb-true}
use mathlib.Core.Bool.{and-false}
use borrow.Author.Tests.{eqb-false, lt-leb}
use Rattle.isrc.proofs.Codes.{parse-other}
use Rattle.std.specs.Prelude.{None, Ok}
use Rattle.model.specs.Results.{Parsed}
use Rattle.model.specs.Table.{MARK}
use Rattle.model.specs.Codes.{is_digit, is_code, value, read_on, number, parse}
use Rattle.model.specs.Lists.{all}
use Rattle.model.specs.Printer.{Bytes, at_first, fields, plus, other, decimal_value, is_recording, just_is, form_of}
use Rattle.script_bytes.specs.Line.{Asked, begin, next_place, moved, longer, next_number, with_digit, entered, step, after, code_of}
use Rattle.script_bytes.specs.Line.{insertion_of, request_at, request, request_of}
use Rattle.script_bytes.specs.declared.Characters.{Characters}
use Rattle.script_bytes.specs.declared.LineState.{LineState}
use Rattle.script_bytes.specs.declared.Place.{Place}
use Rattle.script_bytes.specs.declared.Place.TheVariants.{Sign, CodeStart, Code, RecordingStart, Recording, Other}

-- ---- a line of another form stays one

after-other : (s : LineState) (l : Bytes) → request (after (moved s Other) l) ≡ Ok None
unfolding after step entered next_place request_at
after-other s [] = refl
after-other s (b ∷ bs) = after-other s bs

-- ---- the recording

reading-grows : (n : ℕ) (ds : List ℕ) → n ≤ read_on 10 n ds
unfolding read_on
reading-grows n [] = omega arith
reading-grows n (d ∷ ds) = omega (arith, reading-grows (n * 10 + d) ds)

-- line s with the recording r so far
abbrev recorded : LineState → ℕ → LineState
recorded s r = record { place = Recording; plus = s.plus; code = s.code; recording = r }

-- what a recording that goes on with the bytes l comes to
abbrev recorded_as : LineState → ℕ → Bytes → Asked
recorded_as s r l = cond (all is_digit l && leb (read_on 10 r (map value l)) MARK)
    (insertion_of (code_of s.code) (read_on 10 r (map value l))) (Ok None)

digit-yes : (s : LineState) (r b : ℕ) → is_digit b ≡ true → leb (r * 10 + value b) MARK ≡ true
    → with_digit (recorded s r) b ≡ recorded s (r * 10 + value b)
unfolding with_digit next_number
digit-yes s r b e f = rw (e, f)

digit-no : (s : LineState) (b : ℕ) → (is_digit b && leb (s.recording * 10 + value b) MARK) ≡ false → with_digit s b ≡ moved s Other
unfolding with_digit next_number
digit-no s b e = rw e

after-recording : (s : LineState) (r : ℕ) (l : Bytes) → r ≤ MARK → request (after (recorded s r) l) ≡ recorded_as s r l
unfolding after step entered next_place request_at code_of all read_on
after-recording s r [] h = rw (le-leb r MARK h)
after-recording s r (b ∷ bs) h = go (is_digit b) (leb (r * 10 + value b) MARK) refl refl (after-recording s (r * 10 + value b) bs)
  where
    go : (d w : Bool) → is_digit b ≡ d → leb (r * 10 + value b) MARK ≡ w
        → (r * 10 + value b ≤ MARK → request (after (recorded s (r * 10 + value b)) bs) ≡ recorded_as s (r * 10 + value b) bs)
        → request (after (with_digit (recorded s r) b) bs) ≡ recorded_as s r (b ∷ bs)
    go true true e f ih = rw (digit-yes s r b e f, e) (ih (leb-true (r * 10 + value b) MARK f))
    go true false e f ih =
        let n = leb-false (r * 10 + value b) MARK f in
        let g = lt-leb (read_on 10 (r * 10 + value b) (map value bs)) MARK
        (omega (arith, reading-grows (r * 10 + value b) (map value bs))) in
        rw (digit-no (recorded s r) b (rw (e, f)), e, g, and-false) (after-other (recorded s r) bs)
    go false w e f ih = rw (digit-no (recorded s r) b (rw e), e) (after-other (recorded s r) bs)

-- from the space before it on
after-recording-start : (s : LineState) (l : Bytes)
    → request (after (moved (recorded s 0) RecordingStart) l)
    ≡ cond (is_recording l) (insertion_of (code_of s.code) (decimal_value l)) (Ok None)
unfolding after step entered next_place with_digit request_at is_recording number
after-recording-start s [] = refl
after-recording-start s (b ∷ bs) = after-recording s 0 (b ∷ bs) (omega arith)

-- ---- fields

fields-space : (bs : Bytes) → fields (32 ∷ bs) ≡ [] ∷ fields bs
unfolding fields
fields-space bs = refl

fields-other : (b : ℕ) (bs : Bytes) → eqb b 32 ≡ false → fields (b ∷ bs) ≡ at_first b (fields bs)
unfolding fields
fields-other b bs e = rw (e, fields)

data Cut (l : Bytes) : Type 0 where
  -- no space
  whole : fields l ≡ l ∷ [] → Cut l
  -- a space, which is no digit
  spaced : (f g : Bytes) (fs : List Bytes) → fields l ≡ f ∷ g ∷ fs → all is_digit l ≡ false → Cut l

cut : (l : Bytes) → Cut l
unfolding fields all is_digit
cut [] = whole refl
cut (b ∷ bs) = go (eqb b 32) refl (cut bs)
  where
    go : (t : Bool) → eqb b 32 ≡ t → Cut bs → Cut (b ∷ bs)
    go true e (whole h) = spaced [] bs [] (rw (eqb-true b 32 e) (ap (◌∷◌ []) h)) (rw (eqb-true b 32 e))
    go true e (spaced f g fs h n) = spaced [] f (g ∷ fs) (rw (eqb-true b 32 e) (ap (◌∷◌ []) h)) (rw (eqb-true b 32 e))
    go false e (whole h) = whole (fields-other b bs e ∙ ap (at_first b) h)
    go false e (spaced f g fs h n) = spaced (b ∷ f) g fs (fields-other b bs e ∙ ap (at_first b) h) (rw (n, and-false))

not-recording : (l : Bytes) → all is_digit l ≡ false → is_recording l ≡ false
unfolding is_recording
not-recording l n = rw (n, and-false)

-- the fields after a code and a space are one recording, or the line has another form
recording-form : (c : ℕ) (cs l : Bytes)
    → form_of ((43 ∷ []) ∷ (c ∷ cs) ∷ fields l) ≡ cond (is_recording l) (plus (c ∷ cs) (decimal_value l)) other
unfolding form_of
recording-form c cs l = go (cut l)
  where
    go : Cut l → form_of ((43 ∷ []) ∷ (c ∷ cs) ∷ fields l) ≡ cond (is_recording l) (plus (c ∷ cs) (decimal_value l)) other
    go (whole h) = rw (h, form_of)
    go (spaced f g fs h n) = rw (h, form_of, not-recording l n)

-- a deletion has no field after the code
no-field-more : (c l : Bytes) → form_of ((45 ∷ []) ∷ c ∷ fields l) ≡ other
unfolding form_of
no-field-more c l = go (cut l)
  where
    go : Cut l → form_of ((45 ∷ []) ∷ c ∷ fields l) ≡ other
    go (whole h) = rw (h, form_of)
    go (spaced f g fs h n) = rw (h, form_of)

-- a first field that is no sign
no-sign : (f : Bytes) (fs : List Bytes) → just_is 43 f ≡ false → just_is 45 f ≡ false → form_of (f ∷ fs) ≡ other
unfolding form_of
no-sign f [] p m = refl
no-sign f (c ∷ []) p m = rw m
no-sign f (c ∷ r ∷ []) p m = rw p
no-sign f (c ∷ r ∷ x ∷ more) p m = refl

long-sign : (a b : ℕ) (fs : List Bytes) → form_of (at_first a (at_first b fs)) ≡ other
long-sign a b [] = no-sign (a ∷ b ∷ []) [] refl refl
long-sign a b (f ∷ fs) = no-sign (a ∷ b ∷ f) fs refl refl

wrong-sign : (b : ℕ) (fs : List Bytes) → eqb b 43 ≡ false → eqb b 45 ≡ false → form_of (at_first b fs) ≡ other
wrong-sign b [] p m = no-sign (b ∷ []) [] p m
wrong-sign b ([] ∷ fs) p m = no-sign (b ∷ []) fs p m
wrong-sign b ((c ∷ f) ∷ fs) p m = no-sign (b ∷ c ∷ f) fs refl refl

-- an empty code
no-code : (f l : Bytes) → form_of (f ∷ [] ∷ fields l) ≡ other
unfolding form_of
no-code f l = go (cut l)
  where
    go : Cut l → form_of (f ∷ [] ∷ fields l) ≡ other
    go (whole h) = rw (h, form_of, and-false)
    go (spaced g k fs h n) = rw (h, form_of)

-- ---- the code

-- of the bytes that were read of a code the first 12 are kept, and their number up to 13
record Held (code : Characters) (text : Bytes) : Type 0 where
  long : length code.bytes ≡ 12
  counted : code.count ≡ min (length text) 13
  kept : length text ≤ 12 → take code.count code.bytes ≡ text

abbrev no-byte : Characters
no-byte = record { bytes = replicate 12 0; count = 0 }

held-start : Held no-byte []
held-start = record { long = refl; counted = refl; kept = λ h. refl }

held-more : (code : Characters) (text : Bytes) (b : ℕ) → Held code text → Held (longer code b) (text ++ (b ∷ []))
unfolding longer
held-more code text b h = go (ltb code.count 12) refl
  where
    go : (t : Bool) → ltb code.count 12 ≡ t → Held (longer code b) (text ++ (b ∷ []))
    go true e =
        let n = length-append text (b ∷ []) in
        let l = ltb-true code.count 12 e in
        rw e
        (record {
          long = rw length-set h.long;
          counted = omega (arith, n, h.counted);
          kept = λ g. rw (add-one, take-suc-set code.bytes code.count b (omega (arith, h.long)), h.kept (omega (arith, n)));
        })
    go false e =
        let n = length-append text (b ∷ []) in
        let l = ltb-false code.count 12 e in
        rw e
        (record {
          long = h.long;
          counted = omega (arith, n, h.counted);
          kept = λ g. absurd (omega (arith, n, h.counted));
        })

-- a line whose code was read in part
abbrev coded : Bool → Characters → LineState
coded p code = record { place = Code; plus = p; code = code; recording = 0 }

-- and so a code of 12 bytes is parsed, and any other is none
held-code : (code : Characters) (text : Bytes) → Held code text → code_of code ≡ parse text
unfolding code_of is_code
held-code code text h = go (eqb code.count 12) refl
  where
    go : (t : Bool) → eqb code.count 12 ≡ t → code_of code ≡ parse text
    go true e =
        let n : code.count ≡ 12 = eqb-true code.count 12 e in
        rw (e, code_of) (ap parse (sym (take_all code.count code.bytes (omega (arith, h.long))) ∙ h.kept (omega (arith, h.counted))))
    go false e =
        let n : length text ≡ 12 → ⊥ = λ n. eqb-false code.count 12 e (omega (arith, h.counted)) in
        rw (e, code_of) (sym (parse-other text (rw (ne_eqb (length text) 12 n))))

-- the first field goes on after these bytes
abbrev pub onward : Bytes → List Bytes → List Bytes
onward text [] = text ∷ []
onward text (f ∷ fs) = (text ++ f) ∷ fs

pub onward-first : (text : Bytes) (b : ℕ) (fs : List Bytes) → onward text (at_first b fs) ≡ onward (text ++ (b ∷ [])) fs
onward-first text b [] = refl
onward-first text b (f ∷ fs) = rw append_assoc

abbrev sign_of : Bool → ℕ
sign_of true = 43
sign_of false = 45

asked-plus : (t : Bool) (x : Parsed) (text : Bytes) (r : ℕ) → x ≡ parse text
    → cond t (insertion_of x r) (Ok None) ≡ request_of (cond t (plus text r) other)
asked-plus true x text r e = rw e
asked-plus false x text r e = refl

-- the space after the code
code-space : (p : Bool) (code : Characters) (c : ℕ) (cs l : Bytes) → Held code (c ∷ cs)
    → request (after (step (coded p code) 32) l) ≡ request_of (form_of ((sign_of p ∷ []) ∷ (c ∷ cs) ∷ fields l))
unfolding step entered next_place
code-space true code c cs l h =
    rw (recording-form c cs l)
    (after-recording-start (coded true code) l ∙ asked-plus (is_recording l) _ (c ∷ cs) (decimal_value l) (held-code code (c ∷ cs) h))
code-space false code c cs l h = rw (no-field-more (c ∷ cs) l) (after-other (coded false code) l)

step-code : (p : Bool) (code : Characters) (b : ℕ) → eqb b 32 ≡ false → step (coded p code) b ≡ coded p (longer code b)
unfolding step entered next_place
step-code p code b e = rw e

-- what a line asks whose code was read up to these bytes and that goes on with l
abbrev goes_on : Bool → Bytes → Bytes → Asked
goes_on p text l = request_of (form_of ((sign_of p ∷ []) ∷ onward text (fields l)))

code-byte : (p : Bool) (code : Characters) (c : ℕ) (cs : Bytes) (b : ℕ) (bs : Bytes) → Held code (c ∷ cs)
    → ((code' : Characters) → Held code' (c ∷ cs ++ (b ∷ [])) → request (after (coded p code') bs) ≡ goes_on p (c ∷ cs ++ (b ∷ [])) bs)
    → request (after (step (coded p code) b) bs) ≡ goes_on p (c ∷ cs) (b ∷ bs)
code-byte p code c cs b bs h ih = go (eqb b 32) refl
  where
    go : (t : Bool) → eqb b 32 ≡ t → request (after (step (coded p code) b) bs) ≡ goes_on p (c ∷ cs) (b ∷ bs)
    go true e = rw (eqb-true b 32 e, fields-space, append-nil) (code-space p code c cs bs h)
    go false e = rw (step-code p code b e, fields-other b bs e, onward-first) (ih (longer code b) (held-more code (c ∷ cs) b h))

after-code : (p : Bool) (code : Characters) (c : ℕ) (cs l : Bytes) → Held code (c ∷ cs)
    → request (after (coded p code) l) ≡ goes_on p (c ∷ cs) l
unfolding after request_at form_of fields
after-code true code c cs [] h = refl
after-code false code c cs [] h = rw (append-nil, held-code code (c ∷ cs) h)
after-code p code c cs (b ∷ bs) h = code-byte p code c cs b bs h (λ code'. after-code p code' c (cs ++ (b ∷ [])) bs)

-- ---- the space before the code, the sign, the whole line

abbrev signed : Bool → Place → LineState
signed p place = record { place = place; plus = p; code = no-byte; recording = 0 }

first-onward : (b : ℕ) (fs : List Bytes) → at_first b fs ≡ onward (b ∷ []) fs
first-onward b [] = refl
first-onward b (f ∷ fs) = refl

code-start-byte : (p : Bool) (b : ℕ) (bs : Bytes) → request (after (step (signed p CodeStart) b) bs)
    ≡ request_of (form_of ((sign_of p ∷ []) ∷ fields (b ∷ bs)))
unfolding step entered next_place
code-start-byte p b bs = go (eqb b 32) refl
  where
    go : (t : Bool) → eqb b 32 ≡ t → request (after (step (signed p CodeStart) b) bs)
        ≡ request_of (form_of ((sign_of p ∷ []) ∷ fields (b ∷ bs)))
    go true e = rw (eqb-true b 32 e, fields-space, no-code) (after-other (signed p CodeStart) bs)
    go false e =
        rw (e, fields-other b bs e, first-onward b (fields bs))
        (after-code p (longer no-byte b) b [] bs (held-more no-byte [] b held-start))

after-code-start : (p : Bool) (l : Bytes) → request (after (signed p CodeStart) l) ≡ request_of (form_of ((sign_of p ∷ []) ∷ fields l))
unfolding after request_at form_of fields
after-code-start p [] = rw and-false
after-code-start p (b ∷ bs) = code-start-byte p b bs

sign-byte : (p : Bool) (b : ℕ) (bs : Bytes) → request (after (step (signed p Sign) b) bs)
    ≡ request_of (form_of (at_first (sign_of p) (fields (b ∷ bs))))
unfolding step entered next_place
sign-byte p b bs = go (eqb b 32) refl
  where
    go : (t : Bool) → eqb b 32 ≡ t → request (after (step (signed p Sign) b) bs)
        ≡ request_of (form_of (at_first (sign_of p) (fields (b ∷ bs))))
    go true e = rw (eqb-true b 32 e, fields-space) (after-code-start p bs)
    go false e = rw (e, fields-other b bs e, long-sign) (after-other (signed p Sign) bs)

after-sign : (p : Bool) (l : Bytes) → request (after (signed p Sign) l) ≡ request_of (form_of (at_first (sign_of p) (fields l)))
unfolding after request_at form_of fields
after-sign p [] = refl
after-sign p (b ∷ bs) = sign-byte p b bs

first-byte : (b : ℕ) (bs : Bytes) → request (after (step begin b) bs) ≡ request_of (form_of (fields (b ∷ bs)))
unfolding step entered next_place
first-byte b bs = go (eqb b 43) (eqb b 45) (eqb b 32) refl refl refl
  where
    go : (p m s : Bool) → eqb b 43 ≡ p → eqb b 45 ≡ m → eqb b 32 ≡ s → request (after (step begin b) bs)
        ≡ request_of (form_of (fields (b ∷ bs)))
    go true m s e f g = rw (eqb-true b 43 e, fields-other 43 bs refl) (after-sign true bs)
    go false true s e f g = rw (eqb-true b 45 f, fields-other 45 bs refl) (after-sign false bs)
    go false false true e f g = rw (eqb-true b 32 g, fields-space, no-sign [] (fields bs) refl refl) (after-other begin bs)
    go false false false e f g = rw (e, f, fields-other b bs g, wrong-sign b (fields bs) e f) (after-other begin bs)

-- What is judged of the state after a line is what document 01's form of the line asks.
pub line-judged : (l : Bytes) → request (after begin l) ≡ request_of (form_of (fields l))
unfolding after request_at form_of fields
line-judged [] = refl
line-judged (b ∷ bs) = first-byte b bs
