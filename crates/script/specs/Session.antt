-- What a call of the printer leaves of a line, and of a piece of the input.
use Rattle.std.specs.Prelude.{◌≡◌, ℕ, ◌≤◌, ◌<◌, length, take}
use Rattle.model.specs.Printer.{Bytes, Desk, Reply, reply}
use Rattle.script_bytes.specs.Text.{bytes_of}
use Rattle.script_bytes.specs.Input.{reading, read_bytes, print_on}
use Rattle.script.specs.declared.Session.{Session}
use Rattle.script.specs.Spoken.{desk_of, silent}

abbrev pub desk : Session → Desk
desk y = desk_of y.table.now y.list.now

-- over the same table, list and buffer, so what these hold is what their lender's slices hold
pub record Same_slices (x y : Session) : Type 0 where
  pub same_table : y.table.ghost_name ≡ x.table.ghost_name
  pub same_list : y.list.ghost_name ≡ x.list.ghost_name
  pub same_buffer : y.text.out.ghost_name ≡ x.text.out.ghost_name

-- a reply to session x, left in y: the table and the list, and its bytes as the text
pub record Left (r : Reply) (x y : Session) : Type 0 where
  pub is : reply (bytes_of y.text) (desk y) ≡ r
  pub slices : Same_slices x y

-- Some first bytes of a piece are read as the definition reads them, by session x: the line after them, and the reply in table, list and text
-- of y. Of a piece with a byte at least one is used.
pub record Told (x : Session) (piece : Bytes) (used : ℕ) (y : Session) : Type 0 where
  pub read : read_bytes print_on (silent x.line (desk x)) (take used piece) ≡ reading y.line (reply (bytes_of y.text) (desk y))
  pub used-within : used ≤ length piece
  pub used-some : 0 < length piece → 0 < used
  pub slices : Same_slices x y

-- all of a piece is read so: the line after it, the table and the list
pub record After (x : Session) (piece : Bytes) (y : Session) : Type 0 where
  pub line-is : (read_bytes print_on (silent x.line (desk x)) piece).line ≡ y.line
  pub desk-is : (read_bytes print_on (silent x.line (desk x)) piece).state.desk ≡ desk y
  pub slices : Same_slices x y
