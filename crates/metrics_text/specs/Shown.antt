-- Internal. What is answered at the address for those who watch a server.
use Rattle.std.specs.Prelude.{◌≡◌, ℕ, ◌++◌, Bool, true, false, ◌||◌, if◌then◌else◌, bytes_eq, List, codes}
use Rattle.http_message.specs.Item.{Item, request, unframed}
use Rattle.metrics_text.specs.declared.shown.Shown.{Shown}
use Rattle.metrics_text.specs.declared.shown.Shown.TheVariants.{Health, Metrics, BadMethod, Unknown}

-- the methods that read (RFC 9110, section 9.2.1)
abbrev pub reads : List ℕ → Bool
reads method = bytes_eq method (codes "GET") || bytes_eq method (codes "HEAD")

-- what a request asks for, by its method and its target
abbrev pub shown_of : List ℕ → List ℕ → Shown
shown_of method target =
    if bytes_eq target (codes "/v1/health") then (if reads method then Health else BadMethod)
    else (if bytes_eq target (codes "/v1/metrics") then (if reads method then Metrics else BadMethod) else Unknown)

-- The status line of its answer. Where `served` is false the server is ending or out of memory.
abbrev pub line_of : Shown → Bool → List ℕ
line_of shown false = codes "HTTP/1.1 503 Service Unavailable\r\n"
line_of Health true = codes "HTTP/1.1 200 OK\r\n"
line_of Metrics true = codes "HTTP/1.1 200 OK\r\n"
line_of BadMethod true = codes "HTTP/1.1 405 Method Not Allowed\r\n"
line_of Unknown true = codes "HTTP/1.1 404 Not Found\r\n"

-- the text of a reply begins with the status line of what the request asks for
abbrev pub IsShown : Item → List ℕ → Type 0
IsShown (request m) text = (served : Bool) × (rest : List ℕ) × (text ≡ line_of (shown_of m.method m.target) served ++ rest)
IsShown (unframed refused expected is_head) text = (rest : List ℕ) × (text ≡ codes "HTTP/1.1 400 Bad Request\r\n" ++ rest)
