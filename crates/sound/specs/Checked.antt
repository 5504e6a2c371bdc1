-- What the check of a table answers, in model's words.
use Rattle.std.specs.Prelude as rust
use Rattle.std.specs.Prelude.{◌≡◌, Bool, true, false, cond, None, Some, ℕ, length}
use Rattle.std.proofs.Math.Option.{Option, none, some}
use Rattle.model.specs.Table.{Words}
use Rattle.model.specs.Slots.{View}
use Rattle.model.specs.Reached.{reached, reached_all}
use Rattle.model.specs.SoundTest as model
use Rattle.sound.specs.declared.Leftover.{Leftover}
use Rattle.sound.specs.declared.Leftover.TheVariants.{Nothing, HiddenIn, MissingIn, BothIn}
use Rattle.sound.specs.declared.Sound.{Sound}

-- the leftover that an answer means, and the answer for a leftover
abbrev pub meant : Leftover → model.Leftover
meant Nothing = model.nothing
meant (HiddenIn x) = model.hidden_in x
meant (MissingIn p a trailing) = model.missing_in p a trailing
meant (BothIn p a) = model.both_in p a

abbrev pub said : model.Leftover → Leftover
said model.nothing = Nothing
said (model.hidden_in x) = HiddenIn x
said (model.missing_in p a trailing) = MissingIn p a trailing
said (model.both_in p a) = BothIn p a

abbrev pub verdict_of : Option model.Leftover → rust.Option Leftover
verdict_of none = None
verdict_of (some x) = Some (said x)

-- the node that shows slots from its sibling's fence up, if one does
abbrev pub uncut_in : model.Leftover → rust.Option ℕ
uncut_in model.nothing = None
uncut_in (model.hidden_in x) = None
uncut_in (model.missing_in p a trailing) = cond trailing (Some a) None
uncut_in (model.both_in p a) = None

-- what a check answers: the leftover and the number of nodes reached, if it is sound
abbrev pub Checked : Type 0
Checked = rust.Option Sound

abbrev pub found : Leftover → ℕ → Checked
found x c = Some (record { leftover = x; reached = c })

abbrev pub sound_with : (sound : Bool) → Option model.Leftover → ℕ → Checked
sound_with false o c = None
sound_with true none c = None
sound_with true (some x) c = found (said x) c

-- of one tree, and of a table
unfoldable pub checked_tree : View → Checked
checked_tree v = sound_with (model.sound_view v) (model.leftover v) (length (reached v))

unfoldable pub checked : Words → Checked
checked t = sound_with (model.sound t) (model.leftover_all t) (length (reached_all t))

-- a sound table, with what the check of it found
pub record SoundWith (t : Words) (x : Leftover) (c : ℕ) : Type 0 where
  pub is-sound : model.sound t ≡ true
  pub leftover-is : model.leftover_all t ≡ some (meant x)
  pub reached-are : c ≡ length (reached_all t)

-- for two sound trees without a common node, with these leftovers and so many nodes: in one of them nothing may be left
abbrev pub joined : Leftover → Leftover → ℕ → Checked
joined x y c = cond (model.is_nothing (some (meant x))) (found y c) (cond (model.is_nothing (some (meant y))) (found x c) None)
