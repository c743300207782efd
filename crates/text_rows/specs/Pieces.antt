-- How a buffer is cut to texts by their lengths, and those to rows.
use Rattle.std.specs.Prelude.{ℕ, ◌≡◌, ◌≤◌, IsTrue, List, [], ◌∷◌, drop, length, take}
use Rattle.std.specs.Str.{is_utf8}
use Rattle.gk_document.specs.Texts.{Utf8}
use Rattle.text_rows.specs.declared.rows.RowSize.{RowSize}

-- the texts of these lengths, one after another
abbrev pub texts_of : (lengths bytes : List ℕ) → List Utf8
texts_of [] bytes = []
texts_of (n ∷ ns) bytes = take n bytes ∷ texts_of ns (drop n bytes)

-- each of them is UTF-8, and they are all of the bytes
abbrev pub AreTexts : (lengths bytes : List ℕ) → Type 0
AreTexts [] bytes = bytes ≡ []
AreTexts (n ∷ ns) bytes =
    (n ≤ length bytes) × IsTrue (is_utf8 (take n bytes)) × AreTexts ns (drop n bytes)

-- rows of texts: of each its first lengths and bytes, one after another
abbrev pub rows_of : List RowSize → (lengths bytes : List ℕ) → List (List Utf8)
rows_of [] lengths bytes = []
rows_of (r ∷ rs) lengths bytes =
    texts_of (take r.texts lengths) (take r.bytes bytes)
    ∷ rows_of rs (drop r.texts lengths) (drop r.bytes bytes)

-- they are all of the texts
abbrev pub AreRows : List RowSize → (lengths bytes : List ℕ) → Type 0
AreRows [] lengths bytes = (lengths ≡ []) × (bytes ≡ [])
AreRows (r ∷ rs) lengths bytes =
    (r.texts ≤ length lengths) × (r.bytes ≤ length bytes)
    × AreTexts (take r.texts lengths) (take r.bytes bytes)
    × AreRows rs (drop r.texts lengths) (drop r.bytes bytes)
