-- The masks of a cell, by what a write and a raise of all ones leave of one that holds 0.
use Rattle.std.{proofs.{Common.{◌≡◌, ◌-◌, ◌<◌, ap, ◌∙◌}, lemmas.Nat.{and_comm, and_mask}, Math.Nat.mod-eq_of_lt}, specs.{Prelude.{bit_and, bit_or}, Int.Bits.{and_zero_l, or_zero_l, or_zero_r}}}
use Rattle.model_registers.specs.{Cell.{Cell, written}, DeviceBytes.with_value}

pub written_ones : (c : Cell) → c.writable < 256 → (written 255 (with_value 0 c)).value ≡ c.writable
written_ones c fits =
    let kept = ap (λ n. bit_and n (255 - c.clearable)) (and_zero_l (255 - c.writable)) ∙ and_zero_l (255 - c.clearable) in
    let fallen = ap (λ n. bit_and n 0) (and_zero_l c.clearable) in
    ap (λ n. bit_or (bit_or n (bit_and 255 c.writable)) (bit_and (bit_and 0 c.clearable) 0)) kept ∙ ap (bit_or (bit_or 0 (bit_and 255 c.writable))) fallen
    ∙ or_zero_r (bit_or 0 (bit_and 255 c.writable)) ∙ or_zero_l (bit_and 255 c.writable) ∙ and_comm 255 c.writable ∙ and_mask c.writable 8 ∙ mod-eq_of_lt fits
