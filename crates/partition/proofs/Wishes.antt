-- What becomes of a command by which a client asks for something for itself.
use Rattle.std.proofs.Common.{◌≡◌, Option, Some, None, option_map, refl, ap}
use Rattle.player_state.specs.declared.state.Client.{Client}
use Rattle.transitions.specs.Answers.{ResponseData}
use Rattle.transitions.specs.Transitions.{TransitionData, quiet}
use Rattle.transitions.specs.declared.asked.Asked.{Asked}
use Rattle.status_commands.specs.Status.{Wish, wished}
use Rattle.partition.specs.Step.{transition_wished}

-- a wish leaves the daemon as it is
pub is_wished : (asked : Asked) (client : Client) (t : TransitionData) (wish : Option Wish) (response : ResponseData)
    → Some response ≡ option_map (wished asked client) wish → quiet response ≡ transition_wished asked client t wish
is_wished asked client t None response e = cc
is_wished asked client t (Some wish) response e = (let same : response ≡ wished asked client wish = cc in ap quiet same)

-- where it is none, the command makes what it makes
pub is_unwished : (asked : Asked) (client : Client) (t : TransitionData) (wish : Option Wish)
    → None ≡ option_map (wished asked client) wish → t ≡ transition_wished asked client t wish
is_unwished asked client t None e = refl
is_unwished asked client t (Some wish) e = cc
