use Rattle.notice_laws.proofs.Clients as clients
use Rattle.notice_laws.proofs.Library as library
use Rattle.notice_laws.proofs.Queue as queue
use Rattle.notice_laws.proofs.laws.answers_are_told_of.Goals as goal

pub returns-clause-queue : goal.returns-clause-queue
returns-clause-queue c = queue.queue_is_told

pub returns-clause-current : goal.returns-clause-current
returns-clause-current c = queue.status_is_told

pub returns-clause-options : goal.returns-clause-options
returns-clause-options c = clients.options_are_told

pub returns-clause-outputs : goal.returns-clause-outputs
returns-clause-outputs c = clients.outputs_are_told

pub returns-clause-channels : goal.returns-clause-channels
returns-clause-channels c = clients.channels_are_told

pub returns-clause-partitions : goal.returns-clause-partitions
returns-clause-partitions c = clients.partitions_are_told

pub returns-clause-database : goal.returns-clause-database
returns-clause-database c = library.database_is_told

pub returns-clause-playlists : goal.returns-clause-playlists
returns-clause-playlists c = library.playlists_are_told

pub returns-clause-stickers : goal.returns-clause-stickers
returns-clause-stickers c = library.stickers_are_told
