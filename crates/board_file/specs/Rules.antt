-- The rules for the values of a board file.
--     is_between, has_only_bits      a number in a range; one of 16 bits with none outside a mask
--     has_at_most_15_slashes      a text has at most 15 slashes
--     is_root, is_endpoint, names_endpoint      bus 0; there is an endpoint at a path; a text is the path of an endpoint
--     is_valid_bar_size      a power of two within the limits of a region's kind
--     fits_byte_rule, fits_half_word_rule      the rule that a number fits in its register, and whether it is kept
--     identity_rules, kept      the rules of what identifies a function; all rules of a list are kept
--     fixed_status_rule, multifunction_rule      the rules of the read-only bits of Status, and of bit 7 of Header Type
--     is_device_count, device_limit      how many devices a bus may have; that number, or 32 if the file has another
--     is_non_negative, is_none_or_non_negative      both addresses of an aperture are 0 or more
--     are_apart      two ranges of offsets don't overlap
use Rattle.std.specs.{Prelude.{ℕ, ℤ, ◌+◌, pos, nat_abs, int_le, Bool, true, false, not, ◌&&◌, ◌||◌, List, [], ◌∷◌, ◌==◌, nat_le, Option, Some, None, bit_and, count_by, if◌then◌else◌}, List.list_all, Int.is_power_of_two, Ordering.int_eq}
use Rattle.model_registers.specs.Declarations.{Kind, least_size, greatest_size}
use Rattle.model_board.specs.{Paths.{Path, last_part}, Places.{Standing, has_path, has_bridge}}
use Rattle.board_file.specs.{PathTexts.{is_path_text, path_at}, declared.{document.keys.RegisterKey.RegisterKey, entries.Bounds.Bounds, functions.blocks.ByteRange.ByteRange, rule.Rule.Rule}}
use Rattle.board_file.specs.declared.document.keys.RegisterKey.TheVariants as register
use Rattle.board_file.specs.declared.rule.Rule.TheVariants as rule

-- ---- numbers

abbrev pub is_between : ℕ → ℕ → ℤ → Bool
is_between first last n = int_le (pos first) n && int_le n (pos last)

abbrev pub has_only_bits : ℕ → ℤ → Bool
has_only_bits mask n = is_between 0 0xffff n && (bit_and (nat_abs n) mask == nat_abs n)

abbrev pub is_valid_bar_size : Kind → ℤ → Bool
is_valid_bar_size kind n = is_between (least_size kind) (greatest_size kind) n && is_power_of_two (nat_abs n)

-- a number fits in its register of one byte, or of two
abbrev pub fits_byte_rule : RegisterKey → ℤ → Rule × Bool
fits_byte_rule k n = (rule.Byte k, is_between 0 0xff n)

abbrev pub fits_half_word_rule : RegisterKey → ℤ → Rule × Bool
fits_half_word_rule k n = (rule.HalfWord k, is_between 0 0xffff n)

-- of an endpoint or a bridge
abbrev pub identity_rules : ℤ → ℤ → ℤ → List (Rule × Bool)
identity_rules vendor device revision =
    (rule.Vendor, is_between 0 0xfffe vendor)
    ∷ fits_half_word_rule register.Device device
    ∷ fits_byte_rule register.Revision revision ∷ []

abbrev pub kept : List (Rule × Bool) → Bool
kept rules = list_all (λ r. r.1) rules

-- bits 5 to 7, 9 and 10
abbrev pub has_only_fixed_bits : ℤ → Bool
has_only_fixed_bits n = has_only_bits 0x06e0 n

abbrev pub fixed_status_rule : ℤ → Rule × Bool
fixed_status_rule n = (rule.FixedStatus, has_only_fixed_bits n)

-- bit 7 of Header Type can be clear in functions 1 to 7 alone; a text that isn't a path breaks another rule
abbrev pub multifunction_rule : List ℕ → Bool → Rule × Bool
multifunction_rule at m = (rule.Multifunction, m || not (is_path_text at && (last_part (path_at at)).function == 0))

-- ---- devices

abbrev pub is_device_count : ℤ → Bool
is_device_count n = int_eq n (pos 16) || int_eq n (pos 32)

-- a number that breaks that rule makes no path wrong
abbrev pub device_limit : ℤ → ℕ
device_limit n = if int_eq n (pos 16) then 16 else 32

-- ---- paths

-- 47 is a slash
abbrev pub has_at_most_15_slashes : List ℕ → Bool
has_at_most_15_slashes at = nat_le (count_by (λ b. b == 47) at) 15

abbrev pub is_root : Path → Bool
is_root [] = true
is_root (p ∷ ps) = false

-- there is a function at the path, and it isn't a bridge
abbrev pub is_endpoint : List Standing → Path → Bool
is_endpoint ss p = has_path ss p && not (has_bridge ss p)

abbrev pub names_endpoint : List Standing → List ℕ → Bool
names_endpoint ss t = is_path_text t && is_endpoint ss (path_at t)

-- ---- apertures

abbrev pub is_non_negative : Bounds → Bool
is_non_negative b = int_le (pos 0) b.first && int_le (pos 0) b.last

abbrev pub is_none_or_non_negative : Option Bounds → Bool
is_none_or_non_negative None = true
is_none_or_non_negative (Some b) = is_non_negative b

-- ---- offsets

-- one ends before the other begins
abbrev pub are_apart : ByteRange → ByteRange → Bool
are_apart a b = nat_le (a.off + a.len) b.off || nat_le (b.off + b.len) a.off
