-- `script_bytes::Text::put_number` meets its contract.
use Rattle.std.proofs.Common.{◌≡◌, ℕ, ◌+◌, ◌-◌, ◌≤◌, map, length, take, drop, sym, refl, ap, ◌∙◌, append_assoc, arith, length-drop}
use Rattle.std.proofs.Common.{length-take-le, drop-drop}
use borrow.Rule.Slice.PartMut.{mid_of, put_mid}
use Rattle.model.specs.Codes.{character, digits}
use Rattle.model.specs.Printer.{Bytes, decimal}
use Rattle.script_bytes.specs.Text.{put_at}
use Rattle.script_bytes.proofs.Decimal.{decimal-most, decimal-digits}
use Rattle.script_bytes.proofs.Text.put_number.Goals as goal

-- the digits in the place of as many bytes
written : (out : Bytes) (at n w : ℕ) (ys : Bytes) → w ≡ length (decimal n) → at + w ≤ length out → ys
    ≡ map character (digits 10 (length (mid_of at (at + w - at) out)) n) → put_mid at (at + w - at) out ys ≡ put_at out at (decimal n)
unfolding decimal
written out at n w ys e h f =
    let k : at + w - at ≡ w = omega arith in
    let l : length (take w (drop at out)) ≡ w = length-take-le w (drop at out) (rw length-drop (omega arith)) in
    let g : ys ≡ decimal n = (rw (k, l, e) at f) ∙ sym (decimal-digits 20 n) in
    rw (k, g, drop-drop w at out, e, append_assoc)

pub overflow_add-end : goal.overflow_add-end
overflow_add-end c = omega (arith, c.width.ensures, decimal-most c.args.n)

pub slice_bounds-write_digits-end : goal.slice_bounds-write_digits-end
slice_bounds-write_digits-end c = omega (arith, c.width.ensures, decimal-most c.args.n)

pub returns : goal.returns
returns c =
    let w = c.width in
    let x = c.args.self.now in
    let d = c.write_digits in
    let room : x.at + w.result ≤ length x.out.now = omega (arith, w.ensures, decimal-most c.args.n) in
    record {
      put = record {
        buffer = written x.out.now x.at c.args.n w.result d.new.text w.ensures room d.ensures;
        next = ap (λ (k : ℕ). x.at + k) w.ensures;
      };
      same_buffer = refl;
    }
