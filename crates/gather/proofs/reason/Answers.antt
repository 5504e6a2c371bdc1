-- `gather::reason` meets its contract.
use Rattle.std.proofs.Common.{sym, ◌∙◌, arith}
use Rattle.gather.proofs.Pairs.{reason-range, reason-key, reason-recording, reason-none, filing-none, filing-as, standing-key, recorded-is}
use Rattle.gather.proofs.reason.Goals as goal

pub returns-then-not-ok : goal.returns-then-not-ok
returns-then-not-ok c = let a =
    c.args in record {
      value = reason-range _ _ _ (sym c.ok.ensures ∙ c.if-not-ok.true);
      filing = filing-none a.words.now a.bound a.t _ c.requires.0;
    }

pub ends_with-requires : goal.ends_with-requires
ends_with-requires c = let s = c.requires.0 in (omega (arith, s.below, s.few, s.cells), omega (arith, s.below, s.few, s.small))

pub returns-then-ends_with : goal.returns-then-ends_with
returns-then-ends_with c = let a = c.args in
    let k = standing-key a.words.now a.bound a.t a.key c.requires.0 c.requires.1 c.requires.2 in
    record {
      value = reason-key _ _ _ (sym c.ok.ensures ∙ c.if-not-ok.false) (sym k ∙ sym c.ends_with.ensures ∙ c.if-ends_with.true);
      filing = filing-none a.words.now a.bound a.t _ c.requires.0;
    }

pub is_new-requires : goal.is_new-requires
is_new-requires c = c.requires.0

pub returns-then-not-is_new : goal.returns-then-not-is_new
returns-then-not-is_new c = let a = c.args in
    let w = c.is_new in
    let k = standing-key a.words.now a.bound a.t a.key c.requires.0 c.requires.1 c.requires.2 in
    let e = c.if-not-is_new.true in
    let o = sym c.ok.ensures ∙ c.if-not-ok.false in
    let n = sym k ∙ sym c.ends_with.ensures ∙ c.if-ends_with.false in record {
      value = reason-recording _ _ _ o n (recorded-is _ _ _ _ _ c.recording.ensures w.ensures.value e);
      filing =
          filing-as a.words.now a.bound a.t _ _ _ _ _ c.recording.ensures e w.ensures.filing;
    }

pub returns : goal.returns
returns c = let a = c.args in
    let w = c.is_new in
    let k = standing-key a.words.now a.bound a.t a.key c.requires.0 c.requires.1 c.requires.2 in
    let e = c.if-not-is_new.false in
    let o = sym c.ok.ensures ∙ c.if-not-ok.false in
    let n = sym k ∙ sym c.ends_with.ensures ∙ c.if-ends_with.false in record {
      value = reason-none _ _ _ o n (recorded-is _ _ _ _ _ c.recording.ensures w.ensures.value e);
      filing =
          filing-as a.words.now a.bound a.t _ _ _ _ _ c.recording.ensures e w.ensures.filing;
    }
