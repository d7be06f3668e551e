-- What a fresh store on disks of 192 sectors answers, as numbers that a reader can work out by hand.
-- Assumes nothing.
use Rattle.std.specs.Prelude.{◌≡◌, ℕ, List, [], ◌∷◌, map}
use Rattle.store.specs.declared.Ask.{Ask}
use Rattle.store.specs.declared.Ask.TheVariants.{Read, Add, Replace}
use Rattle.store.specs.Store.{fresh, noughts, size_of, why}

-- something that is asked, and why it is turned away: 0 if it is not
pub record Example : Type 0 where
  pub ask : Ask
  pub answer : ℕ

-- Of disks 0 to 3, two disks' worth of 128 sectors each are the store's, so 255 is its last sector. Disk 3 is in already, there is no disk 16,
-- disk 4 is not in, so it cannot be replaced, and disk 1 is in, so it cannot come.
abbrev pub examples : List Example
examples =
    record { ask = Read 0; answer = 0 } ∷ record { ask = Read 255; answer = 0 } ∷ record { ask = Read 256; answer = 3 } ∷ record { ask = Add 3; answer = 4 } ∷ record { ask = Add 16; answer = 4 } ∷
    record { ask = Replace 4 5; answer = 4 } ∷ record { ask = Replace 0 1; answer = 4 } ∷ []

-- its size, the content of its first sector, and each answer of the table
pub record FirstAnswers : Type 0 where
  pub size : size_of 192 fresh ≡ 256
  pub content : fresh.content 0 (fresh.count 0) ≡ noughts
  pub answers : map (λ (e : Example). why 192 fresh e.ask) examples ≡ map (λ (e : Example). e.answer) examples
