-- The lines of answers (MPD protocol reference, Responses and Failure responses).
use Rattle.std.specs.Prelude.{ℕ, ◌/◌, ◌%◌, List, ◌++◌, codes, decimal}
use Rattle.mpd_text.specs.declared.answers.answer.ErrorNumber.{ErrorNumber}
use Rattle.mpd_text.specs.declared.answers.answer.ErrorNumber.TheVariants.{Argument, Permission, Unknown, NoExist, PlaylistMax, System, UpdateAlready, PlayerSync, Exist}

abbrev pub pair_line : List ℕ → List ℕ → List ℕ
pair_line key value = key ++ codes ": " ++ value ++ codes "\n"

-- a number of thousandths, with three decimals
abbrev pub thousandths_text : ℕ → List ℕ
thousandths_text number = decimal (number / 1000) ++ (codes "." ++ (decimal (number / 100 % 10) ++ (decimal (number / 10 % 10) ++ decimal (number % 10))))

abbrev pub ack_line : ℕ → ℕ → List ℕ → List ℕ → List ℕ
ack_line number place command text =
    codes "ACK [" ++ decimal number ++ codes "@" ++ decimal place ++ codes "] {" ++ command ++ codes "} " ++ text ++ codes "\n"

abbrev pub number_of : ErrorNumber → ℕ
number_of Argument = 2
number_of Permission = 4
number_of Unknown = 5
number_of NoExist = 50
number_of PlaylistMax = 51
number_of System = 52
number_of UpdateAlready = 54
number_of PlayerSync = 55
number_of Exist = 56
