-- What the words lead a search to: a shown slot of the leaf, with the key.
use Rattle.std.proofs.Common.{◌≡◌, ℕ, ◌*◌, List, ◌++◌, take, drop, sym, ap, ◌∙◌, take-append-drop}
use mathlib.Core.List.Memᴰ
use mathlib.Core.List.{Memᴰ}
use Rattle.model.specs.Table.{Words, node}
use Rattle.model.specs.Slots.{Slot, shown, used, node_view}
use Rattle.model.specs.Shifts.{last_pointer}
use Rattle.model.specs.Sentinels.{shown_on}
use Rattle.slot_laws.proofs.Hiding.{shown-append}

-- m slots after the first i, seen from the pointer before them
part-shown : (p i m : ℕ) (ss : List Slot) (s : Slot)
    → Memᴰ s (shown (last_pointer p (take i ss)) (take m (drop i ss))) → Memᴰ s (shown p ss)
part-shown p i m ss s h =
    let q = last_pointer p (take i ss) in
    let a = take m (drop i ss) in
    let later : shown q (drop i ss) ≡ shown q a ++ shown (last_pointer q a) (drop m (drop i ss)) =
    ap (shown q) (sym (take-append-drop m (drop i ss))) ∙ shown-append q a (drop m (drop i ss)) in
    let whole : shown p ss ≡ shown p (take i ss) ++ shown q (drop i ss) =
    ap (shown p) (sym (take-append-drop i ss)) ∙ shown-append p (take i ss) (drop i ss) in
    rw (whole, later) (Memᴰ.append_right (shown p (take i ss)) (Memᴰ.append_left (shown (last_pointer q a) (drop m (drop i ss))) h))

-- a slot shown on a line is shown
pub line-shown : (t : Words) (n j : ℕ) (s : Slot) → Memᴰ s (shown_on t n j) → Memᴰ s (node_view t n).shown
unfolding shown_on
line-shown t n j s h = part-shown (node t n).left (4 * j) 4 (used t n) s h
