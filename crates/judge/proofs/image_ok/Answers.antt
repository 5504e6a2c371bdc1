-- `judge::image_ok` meets its contract, tree by tree. Each answer names what was read by itself: the facts of its place have a type of
-- their own, which no one lemma takes for all.
use Rattle.std.proofs.Common.{sym, ◌∙◌, rules}
use Rattle.two_laws.proofs.SameTwo.{settled-sound}
use Rattle.judge.proofs.Images.{first-sound, second-sound, passed, refused, both-lack, both-have, both-judged}
use Rattle.judge.proofs.image_ok.Goals as goal

pub tree_ok-requires : goal.tree_ok-requires
tree_ok-requires c = record {
  top_value = first-sound _ _ c.word_at-top.ensures (sym c.is_sound.ensures ∙ c.if-is_sound.true);
  root_value = first-sound _ _ c.word_at-root.ensures (settled-sound _ c.args.plan.now.suits.settles);
}

pub tree_ok-requires-else-other-eq0-clause-top_value : goal.tree_ok-requires-else-other-eq0-clause-top_value
tree_ok-requires-else-other-eq0-clause-top_value c = let a = c.args in
    let p = passed a.plan.now.change a.plan.now.table.now a.image.now c.word_at-top.ensures c.word_at-root.ensures c.word_at-other.ensures
    c.word_at-second.ensures
    c.if-is_sound.value c.if-tree_ok.value (search rules) (search rules) c.if-other-second.true in
    second-sound _ _ c.word_at-other.ensures c.if-other-eq0.false p.0

pub tree_ok-requires-else-other-eq0-clause-root_value : goal.tree_ok-requires-else-other-eq0-clause-root_value
tree_ok-requires-else-other-eq0-clause-root_value c = let a = c.args in
    second-sound _ _ c.word_at-second.ensures
    (both-have a.plan.now.change a.plan.now.table.now a.image.now c.word_at-top.ensures c.word_at-root.ensures c.word_at-other.ensures
    c.word_at-second.ensures
    c.if-is_sound.value c.if-tree_ok.value (search rules) (search rules) c.if-other-second.true c.if-other-eq0.false)
    (settled-sound _ c.args.plan.now.suits.settles)

pub returns-else-other-second : goal.returns-else-other-second
returns-else-other-second c = let a = c.args in
    refused a.plan.now.change a.plan.now.table.now a.image.now c.word_at-top.ensures c.word_at-root.ensures c.word_at-other.ensures
    c.word_at-second.ensures
    c.if-is_sound.value c.if-tree_ok.value (search rules) (search rules) c.if-other-second.false

pub returns-then-other-eq0 : goal.returns-then-other-eq0
returns-then-other-eq0 c = let a = c.args in
    both-lack a.plan.now.change a.plan.now.table.now a.image.now c.word_at-top.ensures c.word_at-root.ensures c.word_at-other.ensures
    c.word_at-second.ensures
    c.if-is_sound.value c.if-tree_ok.value (search rules) (search rules) c.if-other-second.true c.if-other-eq0.true

pub returns-else-other-eq0 : goal.returns-else-other-eq0
returns-else-other-eq0 c = let a = c.args in
    both-judged a.plan.now.change a.plan.now.table.now a.image.now c.word_at-top.ensures c.word_at-root.ensures c.word_at-other.ensures
    c.word_at-second.ensures
    c.if-is_sound.value c.if-tree_ok.value (search rules) (search rules) c.if-other-second.true c.if-other-eq0.false
    c.tree_ok-else-other-eq0.ensures
