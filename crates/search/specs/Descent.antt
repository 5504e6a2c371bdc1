-- What a search sees of the node that it stands on, where it stands on each level, and its answer from the pointer of the key's slot.
use Rattle.std.specs.Prelude.{Bool, true, false, cond, ℕ, leb, Result, Ok, Err, Some, None}
use Rattle.std.specs.Prelude as rust
use Rattle.std.proofs.Math.Option.{Option, none, some}
use Rattle.model.specs.declared.Answer.{Answer}
use Rattle.model.specs.declared.Answer.TheVariants.{Found, Absent, Refused}
use Rattle.model.specs.declared.Refusal.{Refusal}
use Rattle.model.specs.declared.Node.{Node}
use Rattle.model.specs.Numbers.{refusal_number}
use Rattle.model.specs.Slots.{View, recording_of, class_of}
use Rattle.model.specs.Search.{Next, passes, moved, route, down, locate, first_with}
use Rattle.slots.specs.Scan.{shown_from}
use Rattle.slots.specs.Held.{held_by}
use Rattle.search.specs.declared.Stood.{Stood}

-- of node n, which is x
abbrev pub looked_at : (n : ℕ) → Node → (k : ℕ) → Stood
looked_at n x k = record { node = n; way = route k x.left (shown_from x.left x.slots 0); held = held_by (first_with k (shown_from x.left x.slots 0)) }

-- of node m
abbrev pub seen_of : View → (k m : ℕ) → Stood
seen_of v k m = record { node = m; way = down v m k; held = held_by (first_with k (v.node m).shown) }

-- of the node that a search for k stands on; none if a test failed
abbrev pub seen_in : View → (k : ℕ) → Option ℕ → rust.Option Stood
seen_in v k none = None
seen_in v k (some m) = Some (seen_of v k m)

-- a node that is read, if a test passes
abbrev pub read_if : Bool → Node → rust.Option Node
read_if b x = cond b (Some x) None

-- the node that a search for k stands on, coming to n on level l; none if a test fails
unfoldable pub stand_on : View → (l n k : ℕ) → Option ℕ
stand_on v l n k = cond (passes v l n) (some (moved v n k)) none

-- the leaf for k, coming to n on its own level, which is at most 15
unfoldable pub locate_from : View → (n k : ℕ) → Option ℕ
locate_from v n k = let l = (v.node n).level in cond (leb l 15) (locate v l n k) none

-- what is answered of a pointer
abbrev pub found : ℕ → Answer
found p = Found (recording_of p) (class_of p)

-- from the pointer of the key's slot; the answer if there is none is given
abbrev pub answer_held : rust.Option ℕ → (absent : Answer) → Answer
answer_held None absent = absent
answer_held (Some p) absent = found p

-- an answer, or the number of a refusal
abbrev pub numbered : Result Answer Refusal → Answer
numbered (Ok x) = x
numbered (Err r) = Refused (refusal_number r)

-- A refusal is an Err: no Ok has one.
abbrev pub is_plain : Result Answer Refusal → Bool
is_plain (Ok (Found recording access)) = true
is_plain (Ok (Absent next)) = true
is_plain (Ok (Refused number)) = false
is_plain (Err r) = true

-- the next key up, or the number of a refusal
abbrev pub absent_by : Result Next Refusal → Answer
absent_by (Ok x) = Absent x
absent_by (Err r) = Refused (refusal_number r)
