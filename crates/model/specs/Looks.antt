-- Document 02, request 10: a search whose looks fall between the orders of one call. With one table throughout it is the search of Search.antt:
-- `looks-still` in crates/reader_laws/proofs/Still.antt.
use Rattle.std.specs.Prelude.{◌≡◌, ◌⊎◌, Bool, true, false, cond, not, ◌&&◌, ◌||◌, ℕ, zero, suc, ◌≤◌, ◌<◌, leb, eqb, length, take, Some, None}
use mathlib.Core.List.{List, [], ◌∷◌, ◌++◌, Memᴰ}
use Rattle.std.proofs.Math.Option.{Option, none, some}
use Rattle.model.specs.declared.Answer.{Answer}
use Rattle.model.specs.declared.Answer.TheVariants.{Found, Absent, Refused}
use Rattle.model.specs.Table.{Words, at, nodes, root_word, header_ok, no_collection}
use Rattle.model.specs.Slots.{Slot, NodeView, View, node_view}
use Rattle.model.specs.Search.{filter, below, on_level, route, first_with, first_above, absent_or, answer_of, search, Next}
use Rattle.model.specs.Sound.{Settled}
use Rattle.model.specs.Orders.{Order, carry}
use Rattle.model.specs.Writes.{Call}
use Rattle.model.specs.Refusals.{refusal, orders_of, table_after}

-- ---- two looks: node n is seen as x, then its sibling, where it has one, as y; the search decides by these two alone

-- a tree of N nodes of which each is seen as x: what the search's tests say of it, they say of the one node that is seen
abbrev pub as_seen : (N : ℕ) → (x : NodeView) → View
as_seen N x = record { nodes = N; root = 0; node = λ (m : ℕ). x }

-- node n, seen as x, is in 1 to N and on level l
unfoldable pub seen_on : (N l n : ℕ) → NodeView → Bool
seen_on N l n x = on_level (as_seen N x) l n

-- coming to n on level l: it is on that level, and so is its sibling, where it has one
unfoldable pub seen_pass : (N l n : ℕ) → (x y : NodeView) → Bool
seen_pass N l n x y = seen_on N l n x && (eqb x.sibling 0 || seen_on N l x.sibling y)

-- k is below the fence of the sibling; with sibling 0 every key is
unfoldable pub seen_within : (x y : NodeView) → ℕ → Bool
seen_within x y k = below (as_seen 0 y) x.sibling k

-- what the search stands on: if the sibling is not 0 and k is at least the sibling's fence, it has moved there; and its number
unfoldable pub stood : (x y : NodeView) → (k : ℕ) → NodeView
stood x y k = cond (seen_within x y k) x y

unfoldable pub stood_on : (n : ℕ) → (x y : NodeView) → (k : ℕ) → ℕ
stood_on n x y k = cond (seen_within x y k) n x.sibling

-- the shown slots whose key is below the sibling's fence
unfoldable pub seen_kept : (x y : NodeView) → List Slot
seen_kept x y = filter (λ (s : Slot). seen_within x y s.key) x.shown

-- ---- A search makes its looks in turn. Look i sees all 32 words of node n at one moment, as `look i n`; N is from the look at the header.

module _ (look : (i n : ℕ) → NodeView) (N k : ℕ) where
  -- the next code up, from leaf n, come to by look i, and on along the siblings; c leaves may be entered
  unfoldable pub next_looks : (c i n : ℕ) → Answer
  next_looks zero i n = Refused 3
  next_looks (suc c) i n =
      let x = look i n in
      let s = x.sibling in
      let y = look (suc i) s in
      elim (seen_pass N 0 n x y) [
        | true ↦ absent_or (first_above k (seen_kept x y)) (elim (eqb s 0) [ true ↦ Absent None | false ↦ next_looks c (suc i) s ])
        | false ↦ Refused 3
      ]

  -- the answer, coming to n on level l by look i; the next code up is looked for by looks of its own
  unfoldable pub answer_looks : (i l n : ℕ) → Answer
  answer_looks i zero n =
      let x = look i n in
      let y = look (suc i) x.sibling in
      elim (seen_pass N 0 n x y) [
        | true ↦ answer_of (first_with k (stood x y k).shown) (next_looks N (suc (suc i)) (stood_on n x y k))
        | false ↦ Refused 3
      ]
  answer_looks i (suc l) n =
      let x = look i n in
      let y = look (suc i) x.sibling in
      let z = stood x y k in
      elim (seen_pass N (suc l) n x y) [ true ↦ answer_looks (suc (suc i)) l (route k z.left z.shown) | false ↦ Refused 3 ]

-- Collection n, where look i sees the table as `when i`: the header is one look, the next is at the root, whose level begins the search.
unfoldable pub search_looks : (n : ℕ) → (when : ℕ → Words) → (k : ℕ) → Answer
search_looks n when k =
    let t = when 0 in
    let look : ℕ → ℕ → NodeView = λ (i m : ℕ). node_view (when i) m in
    let r = at t (root_word n) in
    let l = (look 1 r).level in
    elim (header_ok t) [
      | true ↦ elim (no_collection n t) [
        | true ↦ Refused 17
        | false ↦ elim (leb l 15) [ true ↦ answer_looks look (nodes t) k 1 l r | false ↦ Refused 3 ]
      ]
      | false ↦ Refused 2
    ]

-- ---- which looks a search makes, in turn

-- look i is at node n
pub record Seen : Type 0 where
  pub look : ℕ
  pub node : ℕ

abbrev pub seen : (i n : ℕ) → Seen
seen i n = record { look = i; node = n }

abbrev pub none_above : Next → Bool
none_above (Some j) = false
none_above None = true

abbrev pub no_slot : Option Slot → Bool
no_slot none = true
no_slot (some s) = false

-- the look at a sibling, where there is one
abbrev pub sibling_seen : (i s : ℕ) → List Seen
sibling_seen i s = elim (eqb s 0) [ true ↦ [] | false ↦ seen i s ∷ [] ]

module _ (look : (i n : ℕ) → NodeView) (N k : ℕ) where
  -- after look i at leaf n: along the siblings, until a leaf fails, has a larger key or is the last
  unfoldable pub next_seen : (c i n : ℕ) → List Seen
  next_seen zero i n = []
  next_seen (suc c) i n =
      let x = look i n in
      let s = x.sibling in
      let y = look (suc i) s in
      let on = seen_pass N 0 n x y && (none_above (first_above k (seen_kept x y)) && not (eqb s 0)) in
      sibling_seen (suc i) s ++ elim on [ true ↦ next_seen c (suc i) s | false ↦ [] ]

  -- a node and its sibling, a level a turn; if the key is absent, the leaf once more and its siblings
  unfoldable pub answer_seen : (i l n : ℕ) → List Seen
  answer_seen i zero n =
      let x = look i n in
      let y = look (suc i) x.sibling in
      let m = stood_on n x y k in
      let absent = seen_pass N 0 n x y && no_slot (first_with k (stood x y k).shown) in
      (seen i n ∷ sibling_seen (suc i) x.sibling)
      ++ elim absent [ true ↦ seen (suc (suc i)) m ∷ next_seen N (suc (suc i)) m | false ↦ [] ]
  answer_seen i (suc l) n =
      let x = look i n in
      let y = look (suc i) x.sibling in
      let z = stood x y k in
      (seen i n ∷ sibling_seen (suc i) x.sibling)
      ++ elim (seen_pass N (suc l) n x y) [ true ↦ answer_seen (suc (suc i)) l (route k z.left z.shown) | false ↦ [] ]

-- after the header, look 0; a root above level 15 is looked at once
unfoldable pub search_seen : (n : ℕ) → (when : ℕ → Words) → (k : ℕ) → List Seen
search_seen n when k =
    let t = when 0 in
    let look : ℕ → ℕ → NodeView = λ (i m : ℕ). node_view (when i) m in
    let r = at t (root_word n) in
    let l = (look 1 r).level in
    elim (header_ok t && not (no_collection n t)) [
      | true ↦ elim (leb l 15) [ true ↦ answer_seen look (nodes t) k 1 l r | false ↦ seen 1 r ∷ [] ]
      | false ↦ []
    ]

-- What a search answers goes by these looks alone: by the header as look 0 sees it, and by each node as the look that is at it sees it.
abbrev pub LooksDecide : Type 0
LooksDecide =
    (n k : ℕ) (when when' : ℕ → Words) → length (when' 0) ≡ length (when 0) → ((w : ℕ) → w < 8 → at (when' 0) w ≡ at (when 0) w)
    → ((i m : ℕ) → Memᴰ (seen i m) (search_seen n when k) → node_view (when' i) m ≡ node_view (when i) m)
    → search_looks n when' k ≡ search_looks n when k

-- ---- during one call

-- moments that do not go back
abbrev pub Forward : (moment : ℕ → ℕ) → Type 0
Forward moment = (i : ℕ) → moment i ≤ moment (suc i)

-- look i falls after the first `moment i` of the orders
abbrev pub during : List Order → Words → (moment : ℕ → ℕ) → (i : ℕ) → Words
during os t moment i = carry (take (moment i) os) t

-- The neighbour of request 1 is left out.
abbrev pub without_next : Answer → Answer
without_next (Found r c) = Found r c
without_next (Absent x) = Absent None
without_next (Refused n) = Refused n

-- Request 10: on a table that was settled, a search of collection n for k whose looks fall between the orders of one accepted call x answers as
-- before it or as after it. It holds of class changes and repairs as of insertions and deletions; a settled table's repair has no orders.
abbrev pub Readers : Type 0
Readers =
    (x : Call) (words dock : ℕ) (t : Words) → Settled t → refusal x words dock t ≡ 0 → (n k : ℕ) (moment : ℕ → ℕ) → Forward moment
    → (let answer = without_next (search_looks n (during (orders_of x dock t) t moment) k) in
    (answer ≡ without_next (search n t k)) ⊎ (answer ≡ without_next (search n (table_after x words dock t) k)))
