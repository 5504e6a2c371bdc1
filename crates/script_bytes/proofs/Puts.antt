-- Bytes put into a text one after the other.
use Rattle.std.proofs.Common.{◌≡◌, ℕ, zero, suc, ◌+◌, ◌*◌, ◌/◌, ◌<◌, ◌≤◌, min, List, [], ◌∷◌, ◌++◌, length, get_or, take, drop, sym, refl}
use Rattle.std.proofs.Common.{ap, ◌∙◌, ap₂, append_assoc, append-nil, add-zero, add-one, arith, length-append, length-drop}
use Rattle.std.proofs.Common.{take-append-drop, drop_of_length-le, length-take, length-take-le, take_all, drop-cons, drop-drop, take_at}
use native.Mathlib.Decide.{dec_le}
use lib.Seq.{take-append_seam, drop-append-add}
use Rattle.std.specs.Prelude.{Ok, Err}
use Rattle.model.specs.declared.Counts.{Counts}
use Rattle.model.specs.declared.Refusal.{Refusal}
use Rattle.model.specs.Numbers.{refusal_number}
use Rattle.model.specs.Results.{Written}
use Rattle.model.specs.Table.{Words}
use Rattle.model.specs.Orders.{Order, order_of, decode}
use Rattle.model.specs.declared.ListedOrder.{ListedOrder}
use Rattle.model.specs.ListedOrders.{meant}
use Rattle.model.specs.Printer.{Bytes, decimal, numbers_text, order_text, refused_line}
use Rattle.script_bytes.specs.declared.Text.{Text}
use Rattle.script_bytes.specs.Text.{put_at, Put, order_lines, done_line, spoken, bytes_of, Room, Puts}
use Rattle.script_bytes.proofs.Decimal.{decimal-most, order-most}

length-front : (out : Bytes) (i : ℕ) (bs : Bytes) → i + length bs ≤ length out → length (take i out ++ bs) ≡ i + length bs
length-front out i bs h = simp (length-append, length-take-le i out (omega arith))

pub length-put : (out : Bytes) (i : ℕ) (bs : Bytes) → i + length bs ≤ length out → length (put_at out i bs) ≡ length out
length-put out i bs h = simp (length-append, length-drop, length-take-le i out (omega arith)) (omega arith)

put-put : (out : Bytes) (i : ℕ) (xs ys : Bytes) → i + length xs ≤ length out → put_at (put_at out i xs) (i + length xs) ys
    ≡ put_at out i (xs ++ ys)
put-put out i xs ys h =
    let l = length-front out i xs h in
    let t : take (i + length xs) (put_at out i xs) ≡ take i out ++ xs =
    take_at (take i out ++ xs) (drop (i + length xs) out) (i + length xs) l in
    let n : i + length xs + length ys ≡ i + length (xs ++ ys) = omega (arith, length-append xs ys) in
    let d : drop (i + length xs + length ys) (put_at out i xs) ≡ drop (i + length (xs ++ ys)) out =
    ap (λ (k : ℕ). drop (k + length ys) (put_at out i xs)) (sym l)
    ∙ drop-append-add (take i out ++ xs) (drop (i + length xs) out) (length ys)
    ∙ drop-drop (length ys) (i + length xs) out
    ∙ ap (λ (k : ℕ). drop k out) n in
    ap₂ (λ (a b : Bytes). a ++ ys ++ b) t d ∙ simp append_assoc

-- what is put first, and then what is put after it
pub put-then : {out : Bytes} {i : ℕ} {xs ys out' out'' : Bytes} {r r'' : ℕ} → Put out i xs out' r → i + length xs ≤ length out
    → Put out' r ys out'' r'' → Put out i (xs ++ ys) out'' r''
put-then {out} {i} {xs} {ys} {out'} {out''} {r} {r''} p h q = record {
  buffer = q.buffer ∙ ap₂ (λ (o : Bytes) (k : ℕ). put_at o k ys) p.buffer p.next ∙ put-put out i xs ys h;
  next = omega (arith, p.next, q.next, length-append xs ys);
}

-- ---- the same of a text

pub puts-none : {x : Text} → Puts [] x x
puts-none {x} = record {
  put = record { buffer = sym (take-append-drop x.at x.out.now) ∙ rw (append-nil, add-zero) refl; next = omega arith };
  same_buffer = refl;
}

-- putting xs and then ys is putting both, joined
pub puts-then : {xs ys : Bytes} {x y z : Text} → Puts xs x y → Room (length xs) x → Puts ys y z → Puts (xs ++ ys) x z
puts-then p h q = record { put = put-then p.put h q.put; same_buffer = q.same_buffer ∙ p.same_buffer }

-- the room that is left
pub room-after : {xs : Bytes} {x y : Text} (m n : ℕ) → Puts xs x y → length xs ≤ m → Room (m + n) x → Room n y
room-after {xs} {x} {y} m n p h r =
    let l : length y.out.now ≡ length x.out.now = ap length p.put.buffer ∙ length-put x.out.now x.at xs (omega arith) in
    omega (arith, p.put.next, l, h, r)

-- what is put at the buffer's start is all that is put
pub puts-whole : {bs : Bytes} {x y : Text} → x.at ≡ 0 → Puts bs x y → bytes_of y ≡ bs
puts-whole {bs} {x} {y} e p =
    let n : y.at ≡ length bs = omega (arith, p.put.next, e) in
    rw (n, p.put.buffer, e) (take-append_seam bs (drop (0 + length bs) x.out.now))

-- ---- numbers, each after a space

pub fields-next : (ns : List ℕ) (i : ℕ) {x y z : Text} → i < length ns → Room 21 x → Puts (32 ∷ decimal (get_or ns i 0)) x y
    → Puts (numbers_text (drop (i + 1) ns)) y z → Puts (numbers_text (drop i ns)) x z
unfolding numbers_text
fields-next ns i {x} {y} {z} h r p q =
    rw (drop-cons ns i 0 h) (puts-then p (omega (arith, r, decimal-most (get_or ns i 0))) (rw (add-one i) at q))

pub fields-end : (ns : List ℕ) (i : ℕ) {x z : Text} → length ns ≤ i → Puts (10 ∷ []) x z → Puts (numbers_text (drop i ns)) x z
unfolding numbers_text
fields-end ns i h p = rw (drop_of_length-le ns {i = i} h) p

-- ---- an answer's text

-- a turn of the loop puts the order of the first two words
pub orders-next : (n m : ℕ) (ws pair after : Words) {x y z : Text} → m + 1 ≡ n → ws ≡ pair ++ after → length pair ≡ 2 → Room 48 x
    → Puts (order_text (order_of (get_or pair 0 0) (get_or pair 1 0))) x y → Puts (order_lines (take m (decode after))) y z
    → Puts (order_lines (take n (decode ws))) x z
unfolding decode order_lines
orders-next n m ws [] after e j two r p q = absurd (omega arith)
orders-next n m ws (a ∷ []) after e j two r p q = absurd (omega arith)
orders-next n m ws (a ∷ b ∷ []) after e j two r p q = rw (← e, add-one m, j) (puts-then p (omega (arith, r, order-most (order_of a b))) q)
orders-next n m ws (a ∷ b ∷ c ∷ pair) after e j two r p q = absurd (omega arith)

pub orders-end : (n : ℕ) (ws : Words) {x : Text} → (0 < n → length ws < 2) → Puts (order_lines (take n (decode ws))) x x
unfolding decode order_lines
orders-end zero ws h = puts-none
orders-end (suc n) [] h = puts-none
orders-end (suc n) (a ∷ []) h = puts-none
orders-end (suc n) (a ∷ b ∷ ws) h = absurd (omega (arith, h (omega arith)))

decode-most : (ws : Words) → 2 * length (decode ws) ≤ length ws
unfolding decode
decode-most [] = omega arith
decode-most (a ∷ []) = omega arith
decode-most (a ∷ b ∷ ws) = omega (arith, decode-most ws)

lines-most : (os : List Order) → length (order_lines os) ≤ 48 * length os
unfolding order_lines
lines-most [] = omega arith
lines-most (o ∷ os) = rw length-append (omega (arith, order-most o, lines-most os))

pub orders-most : (list : Words) (n : ℕ) → length (order_lines (take n (decode list))) ≤ 48 * n
orders-most list n = omega (arith, lines-most (take n (decode list)), length-take n (decode list))

-- no more orders are taken than the list has
first-orders : (list : Words) (n k : ℕ) → n ≡ min k (length list / 2) → take n (decode list) ≡ take k (decode list)
first-orders list n k e = go (dec_le k (length list / 2))
  where
    go : Dec (k ≤ length list / 2) → take n (decode list) ≡ take k (decode list)
    go (yes h) = let m : n ≡ k = omega arith in ap (λ (j : ℕ). take j (decode list)) m
    go (no h) = take_all n (decode list) (omega (arith, decode-most list))
        ∙ sym (take_all k (decode list) (omega (arith, decode-most list)))

-- the orders and their counts, and the refusal, are all that is spoken
pub puts-done : (list : Words) (a : Written) (c : Counts) (n : ℕ) → a ≡ Ok c → {x y z : Text} → n
    ≡ min (c.stores + c.flushes) (length list / 2)
    → Room (48 * n) x → Puts (order_lines (take n (decode list))) x y → Puts (done_line c.stores c.flushes) y z → Puts (spoken a list) x z
unfolding spoken
puts-done list a c n b e h p q = rw (b, ← first-orders list n (c.stores + c.flushes) e) (puts-then p (omega (arith, orders-most list n)) q)

pub puts-refused : (list : Words) (a : Written) (e : Refusal) (n : ℕ) → a ≡ Err e → n ≡ refusal_number e → {x y : Text}
    → Puts (refused_line n) x y → Puts (spoken a list) x y
unfolding spoken
puts-refused list a e n b m p = rw (b, ← m) p

-- the line of two words is that of the order that they are
pub order-line : (a b : ℕ) (o : ListedOrder) {x : ListedOrder} → meant o ≡ order_of a b → o ≡ x
    → order_text (order_of a b) ≡ order_text (meant x)
order-line a b o e i = sym (ap order_text e) ∙ ap (λ y. order_text (meant y)) i
