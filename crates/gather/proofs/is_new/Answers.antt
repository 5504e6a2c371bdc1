-- `gather::is_new` meets its contract.
use Rattle.std.proofs.Common.{Err, ap, ◌∙◌}
use Rattle.gather.proofs.Pairs.{new-entered, new-known, full-standing, new-full}
use Rattle.gather.proofs.is_new.Goals as goal

pub is_kept-requires : goal.is_kept-requires
is_kept-requires c = let a = c.args in
    let e = c.enter in
    full-standing a.words.now a.bound a.t a.recording c.requires e.result e.new.cells e.ensures
    (c.in-Err-Full.is ∙ ap Err c.in-Err-Full.field-0-is)

pub returns-in-Ok : goal.returns-in-Ok
returns-in-Ok c = let a = c.args in
    let e = c.enter in let both =
    new-entered a.words.now a.bound a.t a.recording c.requires e.result e.new.cells e.ensures c.in-Ok.is in record
    { value = both.0; filing = both.1 }

pub returns-in-Err-Known : goal.returns-in-Err-Known
returns-in-Err-Known c = let a = c.args in
    let e = c.enter in let both =
    new-known a.words.now a.bound a.t a.recording c.requires e.result e.new.cells e.ensures
    (c.in-Err-Known.is ∙ ap Err c.in-Err-Known.field-0-is) in record { value = both.0; filing = both.1 }

pub returns-in-Err-Full : goal.returns-in-Err-Full
returns-in-Err-Full c = let a = c.args in
    let e = c.enter in let both =
    new-full a.words.now a.bound a.t a.recording c.requires e.result e.new.cells e.ensures
    (c.in-Err-Full.is ∙ ap Err c.in-Err-Full.field-0-is)
    c.is_kept.result c.is_kept.ensures in record { value = both.0; filing = both.1 }
