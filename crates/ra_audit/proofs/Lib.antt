mod AuditLemmas
