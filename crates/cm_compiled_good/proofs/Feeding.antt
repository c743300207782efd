-- What a feed gives of texts that are each a line with its LF.
use Rattle.std.proofs.Common.{◌≡◌, ℕ, ◌+◌, List, [], ◌∷◌, ◌++◌, true, false, Option, Some, None, Ok, map, refl, ap, ◌∙◌, append_assoc, codes}
use Rattle.std.specs.Prelude.{⊤}
use Rattle.std.specs.List.{concat}
use Rattle.cm_envelope.specs.declared.envelope.Envelope.{Envelope}
use Rattle.cm_envelope.specs.declared.feed.Trouble.{Trouble}
use Rattle.cm_envelope.specs.Feeds.{has_line_feed}
use Rattle.cm_envelope.specs.Lines.{Line, is_blank, lines_of, trouble_of, size, feed_lines, unless_trouble, max_line_bytes, max_stream_bytes}
use Rattle.cm_envelope.specs.Reading.{envelope_of_line}
use Rattle.cm_envelope.proofs.Lines.{lines_of-whole}
use Rattle.cm_stream.specs.Stream.{feed_of, nonblank_lines, read_line, as_read, IsRead, envelopes}

-- a text is a line that is read as the envelope, and a LF
pub record IsLineWith (text : List ℕ) (e : Envelope) : Type 0 where
  pub line : List ℕ
  pub cut : text ≡ line ++ codes "\n"
  pub read : envelope_of_line line ≡ Ok e
  pub filled : is_blank line ≡ false
  pub one : has_line_feed line ≡ false

abbrev pub AreLinesWith : List (List ℕ) → List Envelope → Type 0
AreLinesWith [] [] = ⊤
AreLinesWith [] (e ∷ es) = ⊥
AreLinesWith (t ∷ ts) [] = ⊥
AreLinesWith (t ∷ ts) (e ∷ es) = IsLineWith t e × AreLinesWith ts es

pub more_lines : (ts us : List (List ℕ)) (es fs : List Envelope) → AreLinesWith ts es → AreLinesWith us fs → AreLinesWith (ts ++ us) (es ++ fs)
more_lines [] us [] fs h k = k
more_lines [] us (e ∷ es) fs h k = absurd h
more_lines (t ∷ ts) us [] fs h k = absurd h
more_lines (t ∷ ts) us (e ∷ es) fs h k = (h.0, more_lines ts us es fs h.1 k)

-- ---- lines

abbrev bytes_of : List Line → List (List ℕ)
bytes_of ls = map (λ (l : Line). l.bytes) ls

-- without a trouble a feed gives all lines
all_fed : (a b n : ℕ) (ls : List Line) → (feed_lines a b n ls).trouble ≡ None → (feed_lines a b n ls).lines ≡ bytes_of ls
all_fed a b n [] h = refl
all_fed a b n (l ∷ ls) h = go (trouble_of a b n l) h (all_fed a b (n + size l) ls)
  where
    go : (o : Option Trouble) → (unless_trouble o l.bytes (feed_lines a b (n + size l) ls)).trouble ≡ None
        → ((feed_lines a b (n + size l) ls).trouble ≡ None → (feed_lines a b (n + size l) ls).lines ≡ bytes_of ls)
        → (unless_trouble o l.bytes (feed_lines a b (n + size l) ls)).lines ≡ bytes_of (l ∷ ls)
    go (Some t) h rec = let no : Some t ≡ None = h in cc
    go None h rec = ap (λ z. l.bytes ∷ z) (rec h)

-- the numbers from n on
abbrev pub with_numbers : ℕ → List Envelope → List (ℕ × Envelope)
with_numbers n [] = []
with_numbers n (e ∷ es) = (n, e) ∷ with_numbers (n + 1) es

pub numbers_off : (n : ℕ) (es : List Envelope) → envelopes (with_numbers n es) ≡ es
numbers_off n [] = refl
numbers_off n (e ∷ es) = ap (λ z. e ∷ z) (numbers_off (n + 1) es)

first_line : (t : List ℕ) (e : Envelope) (rest : List ℕ) (h : IsLineWith t e) → lines_of (t ++ rest) ≡ record { bytes = h.line; has_end = true } ∷ lines_of rest
first_line t e rest h = ap lines_of (ap (λ z. z ++ rest) h.cut ∙ append_assoc h.line (codes "\n") rest) ∙ lines_of-whole h.line rest h.one

all_read : (n : ℕ) (ts : List (List ℕ)) (es : List Envelope) → AreLinesWith ts es → map read_line (nonblank_lines n (bytes_of (lines_of (concat ts)))) ≡ map as_read (with_numbers n es)
all_read n [] [] h = refl
all_read n [] (e ∷ es) h = absurd h
all_read n (t ∷ ts) [] h = absurd h
all_read n (t ∷ ts) (e ∷ es) h = rw (first_line t e (concat ts) h.0, h.0.filled, h.0.read, all_read (n + 1) ts es h.1) refl

pub they_are_read : (ts : List (List ℕ)) (es : List Envelope) → AreLinesWith ts es → (feed_of (concat ts)).trouble ≡ None → IsRead (concat ts) (with_numbers 1 es)
they_are_read ts es h fits = record {
  no_trouble = fits;
  read = ap (λ ls. map read_line (nonblank_lines 1 ls)) (all_fed max_line_bytes max_stream_bytes 0 (lines_of (concat ts)) fits) ∙ all_read 1 ts es h;
}
