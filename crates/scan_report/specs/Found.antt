-- What a daemon tells of a scan, in one line (this profile's).
use Rattle.std.specs.Prelude.{ℕ, Bool, ◌==◌, nat_le, List, [], ◌++◌, codes, count_by, decimal, length, if◌then◌else◌}
use Rattle.library_scan.specs.Contents.{name_of}
use Rattle.library_scan.specs.declared.content.Refusal.{Refusal}
use Rattle.library_scan.specs.declared.content.Refusal.TheVariants.{NotRiff, NoFormat, Unsupported, NoData, ReadFault}
use Rattle.library_scan.specs.declared.scanned.Refused.{Refused}

-- the index of a refusal among the five
abbrev pub index_of : Refusal → ℕ
index_of NotRiff = 0
index_of NoFormat = 1
index_of Unsupported = 2
index_of NoData = 3
index_of ReadFault = 4

-- a file is refused for this
abbrev pub is_for : Refusal → Refused → Bool
is_for refusal file = index_of file.refusal == index_of refusal

-- how many files are refused for it
abbrev pub count_of : Refusal → List Refused → ℕ
count_of refusal refused = count_by (is_for refusal) refused

-- of two refusals the one for which more files are refused; of two as common the first
abbrev pub commoner : List Refused → Refusal → Refusal → Refusal
commoner refused one other = if nat_le (count_of other refused) (count_of one refused) then one else other

-- the refusal for which most files are refused
unfoldable pub commonest : List Refused → Refusal
commonest refused =
    let first = commoner refused NotRiff NoFormat in
    let second = commoner refused first Unsupported in
    let third = commoner refused second NoData in
    commoner refused third ReadFault

-- how many files are not songs, and a reason with its number
abbrev pub reason_text : ℕ → Refusal → ℕ → List ℕ
reason_text files refusal most =
    codes ", " ++ (decimal files ++ (codes " other files (" ++ (name_of refusal ++ (codes " " ++ (decimal most ++ codes ")")))))

-- what stands behind the number of songs where some files are not songs: the commonest reason
unfoldable pub refused_text : List Refused → List ℕ
refused_text files =
    if length files == 0 then [] else reason_text (length files) (commonest files) (count_of (commonest files) files)

-- how many songs were found, how many files are not songs, and the commonest reason with its number
abbrev pub found_text : ℕ → List Refused → List ℕ
found_text songs refused = decimal songs ++ (codes " songs" ++ refused_text refused)

-- of so many files so many are songs at another rate
abbrev pub rate_text : ℕ → ℕ → ℕ → List ℕ
rate_text songs files rate =
    decimal songs
    ++ (codes " of "
    ++ (decimal files
    ++ (codes " files are at "
    ++ (decimal rate
    ++ (codes " frames a second; set rate = " ++ (decimal rate ++ codes ", or see music_daemon scan DIR"))))))
