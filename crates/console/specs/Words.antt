-- Words parted by blanks.
use Rattle.std.specs.Prelude.{ℕ, Bool, true, false, cond, not, ◌&&◌, ◌||◌, List, [], ◌∷◌, take, drop, Some, None, Option, ◌==◌, nat_le}
use Rattle.std.specs.List.{prefix_len}
use Rattle.console.specs.declared.words.Words.{Words}

-- a space, a tab, or another byte that ASCII moves on by
abbrev pub blank : ℕ → Bool
blank b = b == 32 || (nat_le 9 b && nat_le b 13)

abbrev pub letter : ℕ → Bool
letter b = not (blank b)

-- the line from its first letter on
abbrev pub unblanked : List ℕ → List ℕ
unblanked line = drop (prefix_len blank line) line

-- the letters that a line begins with, if it begins with one
abbrev pub front_word : List ℕ → Option (List ℕ)
front_word line =
    cond (prefix_len letter line == 0) None (Some (take (prefix_len letter line) line))

-- the first word of a line, if it has one
abbrev pub first_word : List ℕ → Option (List ℕ)
first_word line = front_word (unblanked line)

-- what stands behind the first word
abbrev pub rest_of : List ℕ → List ℕ
rest_of line = drop (prefix_len letter (unblanked line)) (unblanked line)

-- a letter in front of what follows it: the first of a word's letters, or a word of its own
abbrev pub lettered : ℕ → Bool → List (List ℕ) → List (List ℕ)
lettered b alone [] = (b ∷ []) ∷ []
lettered b alone (w ∷ ws) = cond alone ((b ∷ []) ∷ w ∷ ws) ((b ∷ w) ∷ ws)

-- whether a word ends here
abbrev pub parts : (ℕ → Bool) → List ℕ → Bool
parts p [] = true
parts p (b ∷ bs) = p b

-- the words of a line, parted by the bytes that pass a test
abbrev pub words_by : (ℕ → Bool) → List ℕ → List (List ℕ)
words_by p [] = []
words_by p (b ∷ bs) = cond (p b) (words_by p bs) (lettered b (parts p bs) (words_by p bs))

-- the words that are left of a line
abbrev pub left : Words → List (List ℕ)
left w = words_by blank w.rest.now

abbrev pub wordless : List (List ℕ) → Bool
wordless [] = true
wordless (w ∷ ws) = false
