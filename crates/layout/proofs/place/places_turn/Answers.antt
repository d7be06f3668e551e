use Rattle.layout.proofs.Turning.{place_within, index_within, index-place, place-index}
use Rattle.layout.proofs.place.places_turn.Goals as goal

pub returns : goal.returns
returns c = λ k r four. record { within = λ i. place_within k i r four; column = λ p. index_within k p r four; back = λ i. index-place i r; forth = λ p. place-index p r }
