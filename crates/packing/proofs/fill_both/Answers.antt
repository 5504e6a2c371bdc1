-- `packing::fill_both` meets its contract.
use Rattle.std.proofs.Common.{◌≡◌, length, ◌∙◌, rules}
use Rattle.packing.proofs.Filling.{first-fits, alone, second-fits, beside}
use Rattle.packing.proofs.fill_both.Goals as goal

pub fill-one-requires : goal.fill-one-requires
fill-one-requires g c = let a =
    c.args in (c.requires.0, c.requires.1, first-fits a.maps.collections a.maps.pairs.now a.maps.loans.now a.words.now g.top c.requires.2)

pub returns-then-maps-eq1 : goal.returns-then-maps-eq1
returns-then-maps-eq1 g c = let a = c.args in
    let f = c.fill-one in let both =
    alone a.maps.collections a.maps.pairs.now a.maps.loans.now a.words.now g.top c.requires.2 f.new.words f.result f.ensures.words_after
    f.ensures.value c.if-maps-eq1.true in
    record { words_after = both.0; one_value = both.1 }

pub fill-two-requires : goal.fill-two-requires
fill-two-requires g c = let a = c.args in
    let f = c.fill-one in
    let w = f.new.words in
    let u : length w ≡ length a.words.now = search rules in (
      u ∙ c.requires.0,
      c.requires.1,
      second-fits a.maps.collections a.maps.pairs.now a.maps.loans.now a.words.now g.top c.requires.2 w f.result f.ensures.words_after
          f.ensures.value c.if-maps-eq1.false,
    )

pub returns : goal.returns
returns g c = let a = c.args in
    let f = c.fill-one in
    let h = c.fill-two in let both =
    beside a.maps.collections a.maps.pairs.now a.maps.loans.now a.words.now g.top c.requires.2 f.new.words f.result f.ensures.words_after
    f.ensures.value c.if-maps-eq1.false h.new.words h.result h.ensures.words_after h.ensures.value in
    record { words_after = both.0; one_value = both.1 }
