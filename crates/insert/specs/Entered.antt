-- What an insertion into a sound table is handed and answers: what the check found; the call's answer, and the count of the nodes that are then
-- reached.
use Rattle.std.specs.Prelude.{◌≡◌, length, Result, Ok, Err}
use Rattle.model.specs.declared.Refusal.{Refusal}
use Rattle.model.specs.Results.{Written}
use Rattle.model.specs.Table.{Words}
use Rattle.model.specs.Reached.{reached_all}
use Rattle.model.specs.Writes.{Call, insertion}
use Rattle.sound.specs.declared.Sound.{Sound}
use Rattle.sound.specs.Checked.{SoundWith}
use Rattle.insert.specs.declared.Entered.{Entered}
use Rattle.insert.specs.declared.Insertion.{Insertion}

-- a sound table, with what the check of it found
abbrev pub Found : Words → Sound → Type 0
Found t x = SoundWith t x.leftover x.reached

-- the call that enters this
abbrev pub call_of : Insertion → Call
call_of x = insertion x.collection x.key x.recording x.access

abbrev pub as_written : Result Entered Refusal → Written
as_written (Ok e) = Ok e.counts
as_written (Err r) = Err r

-- so many nodes are reached in the table that is left
abbrev pub Reaches : Result Entered Refusal → Words → Type 0
Reaches (Ok e) t = e.reached ≡ length (reached_all t)
Reaches (Err r) t = Unit {0}
