-- Replies as text.
--     hex_digits      a number in a fixed number of lower-case digits
--     refusal_words      the message of each refusal
--     reply_text, line_text      a reply; a reply with the name of its receiver
--     reply_lines      the lines of a text that answer a guest
use Rattle.std.specs.{Prelude.{List, [], ◌∷◌, ℕ, zero, suc, ◌*◌, ◌/◌, ◌%◌, false, ◌==◌, if◌then◌else◌, ◌++◌, filter, codes, decimal}, Fmt.digit_glyph, List.starts_with}
use Rattle.model_guests.specs.{Accesses.{Reply, answered, done, refused}, Text.{Text, lines}, Grammar.{Who, guest, host, nobody}}

-- the lowest k hexadecimal digits of n
abbrev pub hex_digits : ℕ → ℕ → Text
hex_digits zero n = []
hex_digits (suc k) n = hex_digits k (n / 16) ++ digit_glyph false (n % 16) ∷ []

abbrev pub refusal_words : ℕ → Text
refusal_words n =
    if n == 301 then codes "misaligned" else (if n == 302 then codes "width" else (if n == 303 then codes "range"
    else (if n == 401 then codes "bad line" else (if n == 402 then codes "unknown guest"
    else (if n == 403 then codes "long line"
    else (if n == 601 then codes "empty slot" else (if n == 602 then codes "slot taken" else [])))))))

abbrev pub reply_text : Reply → Text
reply_text (answered v w) = codes "0x" ++ hex_digits (2 * w) v
reply_text done = codes "ok"
reply_text (refused n) = codes "refused " ++ decimal n ++ codes " " ++ refusal_words n

abbrev pub who_text : Who → Text
who_text (guest name) = name
who_text host = codes "host"
who_text nobody = codes "?"

abbrev pub line_text : Who → Reply → Text
line_text who r = who_text who ++ codes ": " ++ reply_text r

-- they begin with the name, a colon and a space
abbrev pub reply_lines : Text → Text → List Text
reply_lines name text = filter (λ l. starts_with ◌==◌ l (name ++ codes ": ")) (lines text)
