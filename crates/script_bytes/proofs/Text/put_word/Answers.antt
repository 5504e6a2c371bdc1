-- `script_bytes::Text::put_word` meets its contract.
use Rattle.std.proofs.Common.{◌≡◌, ℕ, ◌+◌, ◌-◌, length, refl, append_assoc, arith, drop-drop}
use borrow.Rule.Slice.PartMut.{put_mid}
use Rattle.model.specs.Printer.{Bytes}
use Rattle.script_bytes.specs.Text.{put_at}
use Rattle.script_bytes.proofs.Text.put_word.Goals as goal

pasted : (out text ys : Bytes) (i : ℕ) → ys ≡ text → put_mid i (i + length text - i) out ys ≡ put_at out i text
pasted out text ys i e = let n : i + length text - i ≡ length text = omega arith in rw (e, n, drop-drop, append_assoc)

pub returns : goal.returns
returns c = record { put = record { buffer = pasted _ _ _ _ c.copy_from_slice.ensures.after; next = refl }; same_buffer = refl }
