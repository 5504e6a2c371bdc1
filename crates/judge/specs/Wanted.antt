-- The change that is wanted, as maps: one key of a collection gets another pointer. The line that holds unflushed stores.
use Rattle.std.specs.Prelude.{◌≡◌, Bool, true, false, cond, not, ◌&&◌, ℕ, eqb, is_some, Option as Known, Some, None, Ok}
use Rattle.std.specs.Option.{option_eq}
use Rattle.std.proofs.Math.Option.{Option, none, some}
use Rattle.model.specs.Results.{Verdict}
use Rattle.model.specs.Table.{Words, no_collection}
use Rattle.model.specs.Reached.{map_of, Maps, maps_of}
use Rattle.model.specs.SoundTest.{settled}
use Rattle.model.specs.Ledger.{on_map}
use Rattle.model.specs.Orders.{Order}
use Rattle.model.specs.Judge.{good_image, unflushed_after, second_line, is_none}
use Rattle.compare.specs.Pointers.{held, with_pointer}
use Rattle.judge.specs.declared.Change.{Change}

-- the new maps
unfoldable pub wanted : Change → Words → Maps
wanted c t = on_map c.collection (with_pointer c.key c.pointer) (maps_of t)

-- a settled table that has the collection
pub record Suits (c : Change) (t : Words) : Type 0 where
  pub settles : settled t ≡ true
  pub collection : no_collection c.collection t ≡ false

-- the line that the code has
abbrev pub line_of : Known ℕ → Option ℕ
line_of None = none
line_of (Some l) = some l

-- a line other than this one holds unflushed stores
abbrev pub other_line : Known ℕ → (stored : ℕ) → Bool
other_line None stored = false
other_line (Some l) stored = not (eqb stored l)

-- what an order more comes to, on an image that was good, with line l unflushed: it left u; the line unflushed then, if the count holds
pub record Holds (old new : Maps) (l : Option ℕ) (o : Order) (u : Words) (r : Known (Known ℕ)) : Type 0 where
  pub is-held : is_some r ≡ (not (second_line l o) && good_image old new u)
  pub line-is : (line : Known ℕ) → r ≡ Some line → line_of line ≡ unflushed_after l o

-- the answer after so many orders, all, that left line l unflushed and u, whose maps are the old ones or the new ones
unfoldable pub ended : (line : Option ℕ) → (u : Words) → Change → (count : ℕ) → Verdict
ended l u c n = cond (is_none l && (settled u && option_eq eqb (held c.key (map_of c.collection u)) c.pointer)) (Ok None) (Ok (Some n))
