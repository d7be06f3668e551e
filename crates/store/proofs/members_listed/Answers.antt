use Rattle.store.proofs.Listing as listing
use Rattle.store.proofs.members_listed.Goals as goal

pub returns : goal.returns
returns c = record { absent = listing.absent; present = listing.present; puts = listing.puts }
