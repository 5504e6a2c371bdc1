-- `short_scripts::script_of` meets its contract.
use Rattle.std.proofs.Common.{sym, arith, le-ltb, lt-ltb}
use Rattle.model.specs.declared.Refusal.TheVariants.{NoScript}
use Rattle.model.proofs.Numbers.{refused-by}
use Rattle.model.specs.Scripts.{script_answer, script_out}
use Rattle.short_scripts.proofs.script_of.Goals as goal

pub returns-then-number-gt1554 : goal.returns-then-number-gt1554
unfolding script_answer script_out
returns-then-number-gt1554 c = let e =
    le-ltb c.args.number 1555 c.if-number-gt1554.true in record { value = rw e (sym (refused-by NoScript)); out_after = rw e }

pub returns : goal.returns
unfolding script_answer script_out
returns c = let e = lt-ltb c.args.number 1555 (omega arith) in record { value = rw e; out_after = rw e c.words_of.ensures }
