-- `recordings::place` meets its contract.
use Rattle.std.proofs.Common.{ap, arith}
use Rattle.recordings.specs.Rounds.{prime_of}
use Rattle.recordings.proofs.RoundLaws.{place-at, prime-last}
use Rattle.recordings.proofs.place.Goals as goal

pub returns-in-0-clause-value : goal.returns-in-0-clause-value
unfolding prime_of
returns-in-0-clause-value c = place-at _ _ 1048573 (ap prime_of c.in-0.is)

pub returns-in-1-clause-value : goal.returns-in-1-clause-value
unfolding prime_of
returns-in-1-clause-value c = place-at _ _ 906973 (ap prime_of c.in-1.is)

pub returns-in-2-clause-value : goal.returns-in-2-clause-value
unfolding prime_of
returns-in-2-clause-value c = place-at _ _ 975157 (ap prime_of c.in-2.is)

pub returns-in-3-clause-value : goal.returns-in-3-clause-value
unfolding prime_of
returns-in-3-clause-value c = place-at _ _ 1011827 (ap prime_of c.in-3.is)

pub returns-in-4-clause-value : goal.returns-in-4-clause-value
unfolding prime_of
returns-in-4-clause-value c = place-at _ _ 938459 (ap prime_of c.in-4.is)

pub returns-in_default-clause-value : goal.returns-in_default-clause-value
returns-in_default-clause-value c = place-at _ _ 891287 (prime-last _ (omega arith))
