-- What a client is told that waited (MPD protocol reference, Querying MPD's status, `idle`).
use Rattle.std.specs.Prelude.{◌≡◌, ℕ, List, [], ◌++◌, codes, Option, Some, None}
use Rattle.std.specs.List.{flat_map}
use Rattle.idle_notes.specs.Names.{changed_lines}
use Rattle.connected_clients.specs.declared.notices.Notice.{Notice}

abbrev pub notice_text : Notice → List ℕ
notice_text notice = changed_lines notice.names ++ codes "OK\n"

-- notices, one after the other, or none
abbrev pub AreNotices : List ℕ → Type 0
AreNotices text = (notices : List Notice) × (text ≡ flat_map notice_text notices)

abbrev pub notice_bytes : Option Notice → List ℕ
notice_bytes None = []
notice_bytes (Some notice) = notice_text notice
