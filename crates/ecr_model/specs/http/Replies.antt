-- Replies as bytes (RFC 9112, sections 4 and 6; RFC 9110, sections 9.3.2 and 15). Headers stand in byte order.
use Rattle.std.specs.Prelude.{ℕ, Bool, List, [], ◌++◌, codes, decimal, if◌then◌else◌, bytes_eq}
use Rattle.ecr_model.specs.declared.http.Request.{Request}
use Rattle.ecr_model.specs.declared.http.Section.{Section}
use Rattle.ecr_model.specs.declared.http.Section.TheVariants as sections
use Rattle.ecr_model.specs.names.Texts.{crlf}

-- the header of a reply after which the session closes
unfoldable pub connection_line : Bool → List ℕ
connection_line close = if close then codes "Connection: close" ++ crlf else []

-- a reply of the JSON API up to its body
unfoldable pub json_head : Bool → List ℕ → ℕ → List ℕ
json_head close status size =
    codes "HTTP/1.1 " ++ status ++ crlf
    ++ connection_line close
    ++ codes "Content-Length: " ++ decimal size ++ crlf
    ++ codes "Content-Type: application/x-amz-json-1.1" ++ crlf ++ crlf

-- a reply without a body
unfoldable pub empty_reply : Bool → List ℕ → List ℕ
empty_reply close status =
    codes "HTTP/1.1 " ++ status ++ crlf
    ++ connection_line close
    ++ codes "Content-Length: 0" ++ crlf ++ crlf

-- a reply to HEAD has no body
abbrev pub is_head : Request → Bool
is_head request = bytes_eq request.method (codes "HEAD")

-- the body of the reply where there was no memory for another
abbrev pub failed_body : List ℕ
failed_body = codes "{\"__type\":\"ServerException\",\"message\":\"server error\"}"

-- the reply where there was no memory for another: 53 is the length of its body
unfoldable pub failed_reply : Bool → Bool → List ℕ
failed_reply bare close =
    codes "HTTP/1.1 500 Internal Server Error" ++ crlf
    ++ connection_line close
    ++ codes "Content-Length: 53" ++ crlf
    ++ codes "Content-Type: application/x-amz-json-1.1" ++ crlf ++ crlf
    ++ (if bare then [] else failed_body)

-- the bytes that a client waits for before it sends a body (RFC 9110, section 15.2.1)
unfoldable pub continue_reply : List ℕ
continue_reply = codes "HTTP/1.1 100 Continue" ++ crlf ++ crlf

-- these bytes where they are due
unfoldable pub interim : Bool → List ℕ
interim due = if due then continue_reply else []

-- the reply to what is no request
unfoldable pub bad_reply : List ℕ
bad_reply = empty_reply Bool.true (codes "400 Bad Request")

-- the status of a section that has more bytes than its limit allows (RFC 9110, section 15.5.14; RFC 6585, section 5)
abbrev pub long_status : Section → List ℕ
long_status sections.Head = codes "431 Request Header Fields Too Large"
long_status sections.Body = codes "413 Content Too Large"
long_status sections.Trailers = codes "431 Request Header Fields Too Large"

-- the reply to more bytes than the limit of that section allows
unfoldable pub long_reply : Section → List ℕ
long_reply section = empty_reply Bool.true (long_status section)
