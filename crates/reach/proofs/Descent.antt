-- One level of a search's descent from the words of a table, and the node on a level that it stands on.
use Rattle.std.proofs.Common.{◌≡◌, ℕ, zero, suc, ◌+◌, ◌-◌, ◌<◌, ◌≤◌, true, false, List, get_or, sym, ap, ◌∙◌, arith}
use Rattle.model.specs.Table.{Words, root}
use Rattle.model.specs.Slots.{View, node_view, view_from, view}
use Rattle.model.specs.Search.{below, within, moved, down, path_from}
use Rattle.model.specs.Writes.{standing_in}
use Rattle.view_laws.proofs.NodeViews.{fence_of}
use Rattle.view_laws.proofs.AnyRoot.{any-path}
use Rattle.tree_laws.proofs.Cover.{stays, moves}
use Rattle.slots.specs.Scan.{keeps}
use Rattle.node.specs.Word.{word_of}
use Rattle.node.proofs.WordLaws.{word-level, word-sibling, word-fence}

-- ---- the move on a level, from the words that the code has read: s the sibling, f the sibling's fence

module _ (t : Words) (n k s : ℕ) (e : s ≡ word_of t n 1) where
  q : s ≡ (node_view t n).sibling
  q = e ∙ word-sibling t n

  module _ (f : ℕ) (g : f ≡ word_of t s 3) where
    bound : f ≡ (node_view t (node_view t n).sibling).fence
    bound = g ∙ word-fence t s ∙ ap (fence_of (view t)) q

    same-test : keeps s f k ≡ within (view t) n k
    unfolding keeps below
    same-test = rw (bound, q)

    pub moved-here : keeps s f k ≡ true → n ≡ moved (view t) n k
    moved-here h = sym (stays (view t) k n (sym same-test ∙ h))

    pub moved-right : keeps s f k ≡ false → s ≡ moved (view t) n k
    moved-right h = q ∙ sym (moves (view t) k n (sym same-test ∙ h))

-- ---- a descent

-- the node on level j that a descent for k stands on, coming to n on level l
abbrev pub node_on : View → (l n k j : ℕ) → ℕ
node_on v l n k j = get_or (path_from v l n k) (l - j) 0

pub on-here : (v : View) (l n k j : ℕ) → l ≤ j → node_on v l n k j ≡ moved v n k
unfolding path_from
on-here v zero n k j h = let e : 0 - j ≡ 0 = omega arith in rw e
on-here v (suc l) n k j h = let e : suc l - j ≡ 0 = omega arith in rw e

-- one level down, from level l to r
pub on-lower : (v : View) (l r n k j m c : ℕ) → j < l → r + 1 ≡ l → m ≡ moved v n k → c ≡ down v m k → node_on v r c k j ≡ node_on v l n k j
unfolding path_from
on-lower v zero r n k j m c h o p d = absurd (omega arith)
on-lower v (suc l) r n k j m c h o p d =
    let e : suc l - j ≡ suc (l - j) = omega arith in
    let q : r ≡ l = omega arith in
    rw (e, q, d, p)

-- the whole descent
pub on-top : (t : Words) (r l k j : ℕ) → l ≡ word_of t r 2 → node_on (view t) l r k j ≡ standing_in (view_from t r) j k
unfolding standing_in
on-top t r l k j e =
    rw (e ∙ word-level t r)
    (ap (λ (ns : List ℕ). get_or ns ((node_view t r).level - j) 0) (any-path t (root t) r (node_view t r).level r k))
