-- `write::judge_rest` meets its contract.
use mathlib.Core.Path.{◌≡◌, ap, sym, ◌∙◌}
use Rattle.std.specs.Prelude.{None, ok_or}
use Rattle.std.specs.Result.{result_ok}
use Rattle.list_laws.proofs.Tools.{handed-on}
use Rattle.model.specs.declared.Refusal.TheVariants.{NotSound, NoDock, ShortList}
use Rattle.model.proofs.Numbers.{refused-by}
use Rattle.sound.specs.Checked.{SoundWith}
use Rattle.sound.proofs.JudgeLaws.{checked-sound}
use Rattle.write.proofs.Judging.{not-sound, wrong-dock, too-short, all-passed}
use Rattle.write.proofs.judge_rest.Goals.{In_ok-sound}
use Rattle.write.proofs.judge_rest.Goals as goal

-- the table is sound
found : (c : In_ok-sound) → SoundWith c.args.table.now c.in_ok-sound.sound.leftover c.in_ok-sound.sound.reached
found c = (checked-sound _ _ _).0 (sym c.check.ensures ∙ c.ok_or.ensures.ok_part ∙ ap result_ok c.in_ok-sound.was)

pub returns-in_err-sound : goal.returns-in_err-sound
returns-in_err-sound c =
    let none : c.check.result ≡ None = c.ok_or.ensures.ok_part ∙ ap result_ok c.in_err-sound.was in
    rw (handed-on c.from_residual.ensures.1)
    (sym c.in_err-sound.was ∙ c.ok_or.ensures.value ∙ ap (λ o. ok_or o NotSound) none ∙ sym (refused-by NotSound)
    ∙ not-sound _ _ _ c.requires (sym c.check.ensures ∙ none))

pub returns-then-dock-gt1 : goal.returns-then-dock-gt1
returns-then-dock-gt1 c =
    sym (refused-by NoDock) ∙ wrong-dock _ _ _ c.requires _ _ (found (goal.at.returns-then-dock-gt1 c).In_ok-sound) c.if-dock-gt1.true

pub returns-then-words-words_for : goal.returns-then-words-words_for
returns-then-words-words_for c =
    sym (refused-by ShortList)
    ∙ too-short _ _ _ c.requires _ _ (found (goal.at.returns-then-words-words_for c).In_ok-sound) c.if-dock-gt1.false _ c.words_for.ensures
    c.if-words-words_for.true

pub returns : goal.returns
returns c = all-passed _ _ _ c.requires _ _ (found (goal.at.returns c).In_ok-sound) c.if-dock-gt1.false _ c.words_for.ensures
    c.if-words-words_for.false
