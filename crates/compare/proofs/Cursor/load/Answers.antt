-- `compare::Cursor::load` meets its contract.
use native.Mathlib.Omega.{arith}
use Rattle.compare.proofs.Places.{pairs-load}
use Rattle.compare.proofs.Cursor.load.Goals as goal

pub returns : goal.returns
returns c = record {
  result_value = pairs-load _ _ c.ways_of.result _ c.requires.count_le_at c.requires.fact.0 c.requires.fact.1
      c.ways_of.ensures c.word.ensures;
  nearer = omega (arith, c.requires.fact.1, c.requires.count_le_at);
}
