use Rattle.std.proofs.Common.{arith, ◌≡◌, ℕ, ◌+◌, ◌≤◌, List, ◌++◌, length, take, drop, get_or, ◌-◌, ap, ◌∙◌, length-append, length-drop, length-take}
use Rattle.std.proofs.Math.Seq.{take-append-add}
use Rattle.std.proofs.lemmas.List.{take_all, take-append-le, with_items_is}
use Rattle.mg_text.specs.Decoding.{Gathering}
use Rattle.mg_text.proofs.show_buffer.ShowBuffer.keep_short.Goals as goal

-- what stands behind the piece is not held
kept : (used n : ℕ) (inside bytes copied entry rest held : List ℕ) → take used inside ≡ held → bytes ≡ inside → copied ≡ drop 1 entry → n ≡ get_or entry 0 0 →
    used ≤ length inside → n ≤ length copied →
    take (used + n) (take used bytes ++ (copied ++ rest)) ≡ held ++ take (get_or entry 0 0) (drop 1 entry)
kept used n inside bytes copied entry rest held view same same_copy count some within =
    let long : used ≡ length (take used inside) = omega (arith, length-take used inside, some) in
    ap (λ b. take (used + n) (take used b ++ (copied ++ rest))) same ∙ ap (λ k. take (k + n) (take used inside ++ (copied ++ rest))) long ∙ take-append-add (take used inside) (copied ++ rest) n
    ∙ ap (λ t. take used inside ++ t) (take-append-le n copied rest within) ∙ ap (λ h. h ++ take n copied) view ∙ ap (λ k. held ++ take k copied) count
    ∙ ap (λ t. held ++ take (get_or entry 0 0) t) same_copy

pub returns : goal.returns
returns c =
    let used = c.self.inside.used in
    let bytes : List ℕ = c.deref_mut.result.now in
    let entry : List ℕ = c.args.entry.now in
    let copied : List ℕ = c.copy_from_slice-2.new.self in
    let rest : List ℕ = drop (c.self.inside.used + 15 - c.self.inside.used) (drop c.self.inside.used c.deref_mut.result.now) in
    let part : c.copy_from_slice.new.self ≡ take 15 (drop 1 c.args.entry.now) = c.copy_from_slice.ensures.after in
    let piece : c.copy_from_slice.new.self ≡ drop 1 c.args.entry.now = part ∙ take_all 15 (drop 1 c.args.entry.now) (omega (arith, length-drop 1 c.args.entry.now, c.told-entry)) in
    let again : copied ≡ c.copy_from_slice.new.self = c.copy_from_slice-2.ensures.after in
    let copy : copied ≡ drop 1 c.args.entry.now = again ∙ piece in
    let fifteen : length copied ≡ 15 = omega (arith, ap length copy, length-drop 1 c.args.entry.now, c.told-entry) in
    let count : c.from.result ≡ get_or c.args.entry.now 0 0 = omega (arith, c.from.ensures) in
    let room : c.self.inside.used + 15 ≤ length c.self.inside.bytes.items = omega (
      arith,
      c.requires.room,
      ap (λ (b : Gathering). length b.held) c.self.view_is,
      length-take c.self.inside.used c.self.inside.bytes.items,
      c.self.invariant.0,
      c.self.invariant.1,
    ) in
    let same : length c.deref_mut.result.now ≡ length c.self.inside.bytes.items = ap length c.deref_mut.ensures.value in
    let long : length (take used bytes ++ (copied ++ rest)) ≡ c.self.inside.bytes.len =
    omega (
      arith,
      length-append (take used bytes) (copied ++ rest),
      length-append copied rest,
      length-take used bytes,
      length-drop (c.self.inside.used + 15 - c.self.inside.used) (drop used bytes),
      length-drop used bytes,
      fifteen,
      room,
      same,
      c.self.inside.bytes.ok.0,
    ) in
    let view : take used c.self.inside.bytes.items ≡ c.args.self.now.held = ap (λ (b : Gathering). b.held) c.self.view_is in
    record {
      held = ap (take (c.self.inside.used + c.from.result)) (with_items_is c.self.inside.bytes (take used bytes ++ (copied ++ rest)) long)
          ∙ kept used c.from.result c.self.inside.bytes.items bytes copied entry rest c.args.self.now.held view c.deref_mut.ensures.value copy count
          (omega (arith, room)) (omega (arith, count, fifteen, c.requires.short));
      left = omega (
        arith,
        length-take (get_or entry 0 0) (drop 1 entry),
        length-drop 1 entry,
        c.told-entry,
        count,
        c.requires.short,
        c.requires.left,
        ap (λ (b : Gathering). b.left) c.self.view_is,
      );
    }
