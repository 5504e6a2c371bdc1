-- Stores to nodes that a tree does not reach leave that tree: its leftover, its map and its nodes.
use Rattle.std.proofs.Common.{◌≡◌, ℕ, ◌≤◌, false, List, [], ◌∷◌, refl, ◌∙◌, arith}
use mathlib.Core.List.{Memᴰ}
use Rattle.model.specs.Table.{Words, node_start}
use Rattle.model.specs.Slots.{View, node_view, view_from}
use Rattle.model.specs.Reached.{reached, mapping}
use Rattle.model.specs.SoundTest.{elem, Leftover}
use Rattle.model.specs.Orders.{Store, apply}
use Rattle.view_laws.proofs.NodeViews.{shown-eq}
use Rattle.list_laws.proofs.Tools.{Each}
use Rattle.list_laws.proofs.Members.{elem-none}
use Rattle.word_laws.proofs.Outside.{Into, outside-start, outside-store}
use Rattle.word_laws.proofs.Stores.{do_store}
use Rattle.word_laws.proofs.Frames.{same-nodes, else-header, view-else}
use Rattle.change_laws.proofs.Unreached.{unreached-keeps}
use Rattle.change_laws.proofs.Parts.{HasLeft, Keeps}

-- a node other than these
pub record Other (ns : List ℕ) (x : ℕ) : Type 0 where
  pub some : 1 ≤ x
  pub off : elem x ns ≡ false

-- a store to such a node
pub record Away (ns : List ℕ) (s : Store) : Type 0 where
  pub node : ℕ
  pub some : 1 ≤ node
  pub off : elem node ns ≡ false
  pub into : Into (node_start node) 32 s

-- ---- one store, all of them, each first part

store-keeps : (t : Words) (q : ℕ) (z : Leftover) (s : Store) → HasLeft (view_from t q) z → Away (reached (view_from t q)) s
    → Keeps (view_from t q) (view_from (do_store s t) q) z
store-keeps t q z s l a =
    let x = a.node in
    let o = outside-store (node_start x) 32 t t s a.into (outside-start (node_start x) 32 t) in
    unreached-keeps (view_from t q) (view_from (do_store s t) q) x (same-nodes (else-header t (do_store s t) x o)) refl
    (view-else t (do_store s t) x o a.some) z l (λ e. omega (arith, a.some)) a.off

keeps-trans : (u v w : View) (z : Leftover) → Keeps u v z → Keeps v w z → Keeps u w z
keeps-trans u v w z f g =
    record { left = g.left; mapping = g.mapping ∙ f.mapping; reached = g.reached ∙ f.reached; room = λ r. g.room (f.room r) }

keeps-refl : (v : View) (z : Leftover) → HasLeft v z → Keeps v v z
keeps-refl v z l = record { left = l; mapping = refl; reached = refl; room = λ r. r }

pub away-keeps : (ss : List Store) (t : Words) (q : ℕ) (z : Leftover) → HasLeft (view_from t q) z → Each (Away (reached (view_from t q))) ss
    → Keeps (view_from t q) (view_from (apply ss t) q) z
unfolding apply
away-keeps [] t q z l a = keeps-refl (view_from t q) z l
away-keeps (s ∷ ss) t q z l a =
    let k = store-keeps t q z s l a.0 in
    keeps-trans (view_from t q) (view_from (do_store s t) q) (view_from (apply ss (do_store s t)) q) z k
    (away-keeps ss (do_store s t) q z k.left (rw k.reached a.1))

-- a node of the list shows what it showed
pub away-shown : (ns : List ℕ) (ss : List Store) (t : Words) (n : ℕ) → Memᴰ n ns → Each (Away ns) ss
    → (node_view (apply ss t) n).shown ≡ (node_view t n).shown
unfolding apply
away-shown ns [] t n m a = refl
away-shown ns (s ∷ ss) t n m a =
    let x = a.0.node in
    let o = outside-store (node_start x) 32 t t s a.0.into (outside-start (node_start x) 32 t) in
    away-shown ns ss (do_store s t) n m a.1
    ∙ shown-eq ((view-else t (do_store s t) x o a.0.some).else n (λ q. (elem-none x ns).0 a.0.off (rw q at m)))
