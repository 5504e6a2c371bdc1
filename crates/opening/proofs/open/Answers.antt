-- `opening::open` meets its contract.
use Rattle.std.proofs.Common.{◌≡◌, true, sym, ap, ◌∙◌}
use Rattle.std.specs.Prelude.{length}
use Rattle.std.specs.Result.{result_ok}
use Rattle.model.specs.declared.Refusal.TheVariants.{OtherSummary, NotSettled}
use Rattle.model.specs.Table.{header_ok, nodes}
use Rattle.model.specs.Summary.{summary_words}
use Rattle.list_laws.proofs.Tools.{handed-on}
use Rattle.model.proofs.Numbers.{passed-zero, failed-some, failed-with, refused-by}
use Rattle.table_laws.proofs.Header.{header-number-iff}
use Rattle.sound.specs.Checked.{SoundWith}
use Rattle.sound.proofs.JudgeLaws.{checked-sound}
use Rattle.opening.proofs.Call.{words-few, no-table, other-length, not-sound, not-settled, now-settled, is-opened}
use Rattle.opening.proofs.open.Goals.{In_ok-header, In_ok-whole}
use Rattle.opening.proofs.open.Goals as goal

-- what the tests left: a good header, and a sound table
good : (c : In_ok-header) → header_ok c.args.table.now ≡ true
good c = (header-number-iff _).0 (passed-zero _ (sym c.header.ensures ∙ c.in_ok-header.was))

found : (c : In_ok-whole) → SoundWith c.args.table.now c.in_ok-whole.whole.leftover c.in_ok-whole.whole.reached
found c = (checked-sound _ _ _).0 (sym c.check.ensures ∙ c.ok_or.ensures.ok_part ∙ ap result_ok c.in_ok-whole.was)

pub returns-in_err-header : goal.returns-in_err-header
returns-in_err-header c =
    let e = sym c.header.ensures ∙ c.in_err-header.was in
    let both = no-table c.args.table.now c.args.summary.now (failed-some _ e) in
    record { value = rw (handed-on c.from_residual.ensures.1) (sym (failed-with _ e) ∙ both.0); summary_after = both.1 }

pub summary_words-requires : goal.summary_words-requires
summary_words-requires c = words-few _ _ (good (goal.at.summary_words-requires c).In_ok-header) c.word_at.ensures

pub returns-then-summary-summary_words : goal.returns-then-summary-summary_words
returns-then-summary-summary_words c = let a = c.args in
    let other = λ (e : length a.summary.now ≡ summary_words (nodes a.table.now)). c.if-summary-summary_words.true
    (e ∙ ap summary_words (sym c.word_at.ensures) ∙ sym c.summary_words.ensures) in
    let both = other-length a.table.now a.summary.now (good (goal.at.returns-then-summary-summary_words c).In_ok-header) other in
    record { value = sym (refused-by OtherSummary) ∙ both.0; summary_after = both.1 }

pub returns-in_err-whole : goal.returns-in_err-whole
returns-in_err-whole c = let a = c.args in
    let l : length a.summary.now ≡ summary_words (nodes a.table.now) =
    c.if-summary-summary_words.false ∙ c.summary_words.ensures ∙ ap summary_words c.word_at.ensures in
    let both = not-sound a.table.now a.summary.now (good (goal.at.returns-in_err-whole c).In_ok-header) l c.check.ensures
    (sym c.ok_or.ensures.value ∙ c.in_err-whole.was) in
    record { value = rw (handed-on c.from_residual-in_err-whole.ensures.1) both.0; summary_after = both.1 }

pub returns-then-not-is_nothing : goal.returns-then-not-is_nothing
returns-then-not-is_nothing c = let a = c.args in
    let l : length a.summary.now ≡ summary_words (nodes a.table.now) =
    c.if-summary-summary_words.false ∙ c.summary_words.ensures ∙ ap summary_words c.word_at.ensures in
    let s = found (goal.at.returns-then-not-is_nothing c).In_ok-whole in
    let both = not-settled a.table.now a.summary.now (good (goal.at.returns-then-not-is_nothing c).In_ok-header) l _ _ s
    (sym c.is_nothing.ensures ∙ c.if-not-is_nothing.true) in
    record { value = sym (refused-by NotSettled) ∙ both.0; summary_after = both.1 }

pub write_summary-requires : goal.write_summary-requires
write_summary-requires c = let a = c.args in
    let l : length a.summary.now ≡ summary_words (nodes a.table.now) =
    c.if-summary-summary_words.false ∙ c.summary_words.ensures ∙ ap summary_words c.word_at.ensures in
    let s = found (goal.at.write_summary-requires c).In_ok-whole in
    record {
      table_value = now-settled a.table.now a.summary.now (good (goal.at.write_summary-requires c).In_ok-header) l _ _ s
          (sym c.is_nothing.ensures ∙ c.if-not-is_nothing.false);
      summary_len = l;
    }

pub returns : goal.returns
returns c = let a = c.args in
    let h = good (goal.at.returns c).In_ok-header in
    let l : length a.summary.now ≡ summary_words (nodes a.table.now) =
    c.if-summary-summary_words.false ∙ c.summary_words.ensures ∙ ap summary_words c.word_at.ensures in
    let s = found (goal.at.returns c).In_ok-whole in
    let n = now-settled a.table.now a.summary.now h l _ _ s (sym c.is_nothing.ensures ∙ c.if-not-is_nothing.false) in
    let both = is-opened a.table.now a.summary.now h l _ _ s n c.write_summary.new.summary c.write_summary.ensures in
    record { value = both.0; summary_after = both.1 }
