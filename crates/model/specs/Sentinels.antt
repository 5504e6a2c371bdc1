-- Request 8: sentinels for the leaves. A second lent slice holds 3 words a node, which spare a search whole lines of a leaf.
use Rattle.std.specs.Prelude.{◌≡◌, Bool, true, false, cond, not, ℕ, ◌+◌, ◌-◌, ◌*◌, ◌/◌, eqb, leb, length, take, drop, replicate, Ok}
use mathlib.Core.List.{List, [], ◌∷◌, map, Memᴰ}
use Rattle.std.proofs.Math.Option.{Option, none, some}
use Rattle.model.specs.Results.{Outcome, Written, refused_with}
use Rattle.model.specs.declared.Answer.{Answer}
use Rattle.model.specs.declared.Answer.TheVariants.{Found, Refused}
use Rattle.model.specs.Table.{MARK, Words, at, nodes, node, header_ok, no_collection}
use Rattle.model.specs.Slots.{Slot, recording, class, shown, used, View, node_view, view_of, height}
use Rattle.model.specs.Search.{locate, first_with, answer_of, search_view, search}
use Rattle.model.specs.Reached.{flat, leaves, trees}
use Rattle.model.specs.SoundTest.{elem, sound}
use Rattle.model.specs.Orders.{Store, apply}
use Rattle.model.specs.Shifts.{last_pointer}
use Rattle.model.specs.Writes.{numbers, Call, stores_of}
use Rattle.model.specs.Refusals.{seventeen_in, test, first_number, refusal, unless_refused, written, table_after, list_after}

-- ---- the words

-- The shown slots on slot line j, 0 to 2, of node n: four slots are a line. Which slots are in use, and the pointer before the line's first
-- one, go by the lines before it.
unfoldable pub shown_on : Words → (n j : ℕ) → List Slot
shown_on t n j = let ss = used t n in shown (last_pointer (node t n).left (take (4 * j) ss)) (take 4 (drop (4 * j) ss))

abbrev pub first_key : List Slot → ℕ
first_key [] = MARK
first_key (s ∷ ss) = s.key

-- the leaves reached from either root
unfoldable pub leaves_all : Words → List ℕ
leaves_all t = flat leaves (trees t)

-- For each slot line of a reachable leaf, the key of its first shown slot, else MARK; 0 for other nodes.
unfoldable pub sentinels_of : Words → (n : ℕ) → Words
sentinels_of t n = cond (elem n (leaves_all t)) (map (λ (j : ℕ). first_key (shown_on t n j)) (0 ∷ 1 ∷ 2 ∷ [])) (replicate 3 0)

-- the true words of a table, 3 a node
unfoldable pub sentinels : Words → Words
sentinels t = flat (sentinels_of t) (numbers 1 (nodes t))

-- the words of node n in a slice
abbrev pub words_of : Words → (n : ℕ) → Words
words_of ws n = take 3 (drop (3 * (n - 1)) ws)

-- ---- refusals: 19, slice not 3 times N words, straight after 17, only in calls that take the slice

-- what such a call tests first, with a slice of m words: 2; 17, where its collection is not there; 19
unfoldable pub slice_number : (lacks : Bool) → (m : ℕ) → Words → ℕ
slice_number lacks m t = first_number (test (not (header_ok t)) 2 ∷ test lacks 17 ∷ test (not (eqb m (3 * nodes t))) 19 ∷ [])

-- ---- working them out, of both collections: 2, 19, then 4 on a table that is not sound

unfoldable pub work_number : (m : ℕ) → Words → ℕ
work_number m t = let n = slice_number false m t in unless_refused n (cond (sound t) 0 4) n

unfoldable pub work_out : (m : ℕ) → Words → Outcome
work_out m t = unless_refused (work_number m t) (Ok tt) (refused_with (work_number m t))

-- the slice that it leaves
unfoldable pub worked_out : (ws : Words) → Words → Words
worked_out ws t = unless_refused (work_number (length ws) t) (sentinels t) ws

-- ---- a search that takes them

-- the last line whose word is at most the key, if any
unfoldable pub line_for : (k : ℕ) → Words → Option ℕ
line_for k ws = cond (leb (at ws 2) k) (some 2) (cond (leb (at ws 1) k) (some 1) (cond (leb (at ws 0) k) (some 0) none))

-- the first shown slot with key k on a line of node n
abbrev pub on_line : Words → (n k : ℕ) → Option ℕ → Option Slot
on_line t n k none = none
on_line t n k (some j) = first_with k (shown_on t n j)

-- in the leaf that a search for k comes to, where it comes to one: on the line that its words name
abbrev pub led_to : (ws : Words) → Words → (k : ℕ) → Option ℕ → Option Slot
led_to ws t k none = none
led_to ws t k (some n) = on_line t n k (line_for k (words_of ws n))

unfoldable pub leaf_sought : View → (k : ℕ) → Option ℕ
leaf_sought v k = elim (leb (height v) 15) [ true ↦ locate v (height v) v.root k | false ↦ none ]

-- It looks first at that line, then at the whole leaf, as the plain search does.
unfoldable pub search_with : (n : ℕ) → (ws : Words) → Words → (k : ℕ) → Answer
search_with n ws t k =
    let r = slice_number (no_collection n t) (length ws) t in
    let v = view_of n t in
    unless_refused r (answer_of (led_to ws t k (leaf_sought v k)) (search_view v k)) (Refused r)

-- a shown slot of leaf m with key k
pub record Shows (t : Words) (m k : ℕ) (s : Slot) : Type 0 where
  pub in-leaf : Memᴰ s (node_view t m).shown
  pub key : s.key ≡ k

-- Both searches find, each a shown slot of the leaf with the key.
pub record OtherSlot (n : ℕ) (ws t : Words) (k : ℕ) : Type 0 where
  pub leaf : ℕ
  pub come-to : leaf_sought (view_of n t) k ≡ some leaf
  pub plain : Slot
  pub chosen : Slot
  pub plain-shows : Shows t leaf k plain
  pub chosen-shows : Shows t leaf k chosen
  pub plain-found : search n t k ≡ Found (recording plain) (class plain)
  pub chosen-found : search_with n ws t k ≡ Found (recording chosen) (class chosen)

-- ---- the writing calls: all but the slice is the plain call's

-- with a slice of m words
unfoldable pub refusal_with : Call → (m words dock : ℕ) → Words → ℕ
refusal_with x m words dock t = let r = slice_number (seventeen_in x t) m t in unless_refused r (refusal x words dock t) r

unfoldable pub written_with : Call → (m words dock : ℕ) → Words → Written
written_with x m words dock t = let r = slice_number (seventeen_in x t) m t in unless_refused r (written x words dock t) (refused_with r)

unfoldable pub table_with : Call → (m words dock : ℕ) → Words → Words
table_with x m words dock t = unless_refused (slice_number (seventeen_in x t) m t) (table_after x words dock t) t

unfoldable pub orders_with : Call → (m : ℕ) → (lent : Words) → (dock : ℕ) → Words → Words
orders_with x m lent dock t = unless_refused (slice_number (seventeen_in x t) m t) (list_after x lent dock t) lent

-- the node that a word of the table belongs to; 0 for the header
abbrev pub node_of : (word : ℕ) → ℕ
node_of w = (w + 24) / 32

-- some store goes to node n
unfoldable pub stores_to_node : List Store → (n : ℕ) → Bool
stores_to_node ss n = elem n (map (λ (s : Store). node_of s.word) ss)

-- a slice with the words of these nodes set by table t, and no others
unfoldable pub set_anew : (these : ℕ → Bool) → Words → (ws : Words) → Words
set_anew these t ws = flat (λ (n : ℕ). cond (these n) (sentinels_of t n) (words_of ws n)) (numbers 1 (nodes t))

-- An accepted write sets the words of the nodes it stored to, by the table that it leaves.
unfoldable pub sentinels_with : Call → (ws : Words) → (words dock : ℕ) → Words → Words
sentinels_with x ws words dock t =
    unless_refused (refusal_with x (length ws) words dock t) (set_anew (stores_to_node (stores_of x t)) (apply (stores_of x t) t) ws) ws

-- What a writing call that takes the slice answers, and what it leaves of the table, the list and the slice.
pub record Leaves (x : Call) (dock : ℕ) (t t' lent lent' ws ws' : Words) (answer : Written) : Type 0 where
  pub answered : answer ≡ written_with x (length ws) (length lent) dock t
  pub table : t' ≡ table_with x (length ws) (length lent) dock t
  pub listed : lent' ≡ orders_with x (length ws) lent dock t
  pub slice : ws' ≡ sentinels_with x ws (length lent) dock t
