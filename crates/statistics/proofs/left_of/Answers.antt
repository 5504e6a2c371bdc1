-- `statistics::left_of` meets its contract.
use Rattle.sound.specs.declared.Leftover.TheVariants.{Nothing}
use Rattle.statistics.proofs.Lefts.{words-of, words-hidden, words-missing, words-both}
use Rattle.statistics.proofs.left_of.Goals as goal

pub returns-in-Nothing : goal.returns-in-Nothing
returns-in-Nothing c = let a = c.args in words-of a.table.now a.collection a.left Nothing c.in-Nothing.is

pub returns-in-HiddenIn : goal.returns-in-HiddenIn
returns-in-HiddenIn c = let a = c.args in
    words-hidden a.table.now a.collection a.left _ _ c.in-HiddenIn.is c.hidden_slot.ensures

pub returns-in-MissingIn : goal.returns-in-MissingIn
returns-in-MissingIn c = let a = c.args in
    words-missing a.table.now a.collection a.left _ _ _ _ _ c.in-MissingIn.is c.word.ensures c.trailing_slots.ensures

pub returns-in-BothIn : goal.returns-in-BothIn
returns-in-BothIn c = let a = c.args in
    words-both a.table.now a.collection a.left _ _ _ _ c.in-BothIn.is c.hidden_slot-in-BothIn.ensures c.word-in-BothIn.ensures
